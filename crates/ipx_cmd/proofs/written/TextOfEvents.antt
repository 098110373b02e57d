-- The text of events, one after the other.
use Rattle.std.proofs.lemmas.Grind.{common_steps}
use Rattle.std.proofs.Common.{◌≡◌, ℕ, ◌+◌, ◌-◌, ◌<◌, List, [], ◌∷◌, ◌++◌, sym, ap, ◌∙◌, arith, replicate, append_assoc, append-nil}
use Rattle.std.proofs.lemmas.List.{replicate_more, replicate-append-replicate}
use Rattle.ipx_router.specs.History.{Event, History, Second}
use Rattle.ipx_router.specs.Outcomes.{outcome}
use Rattle.ipx_router.specs.Port.{Port}
use Rattle.ipx_router.specs.Relays.{Sent}
use Rattle.ipx_router.specs.Sends.{sends}
use Rattle.ipx_router.specs.declared.outcome.Outcome.{Outcome}
use Rattle.ipx_cmd.specs.EventText.{event_lines, event_text, events_text, most_routes, most_services, reason}

-- what an event sends and what becomes of it say its text
pub event_said : (ports : List Port) (history : History) (event : Event) (becomes : Outcome) (sent : List Sent)
    → sent ≡ sends ports most_routes most_services history event → becomes ≡ outcome ports most_routes history event
    → event_lines (reason becomes) sent ≡ event_text ports history event
unfolding event_text
event_said ports history event becomes sent sends becoming = grind arith

pub events_append : (ports : List Port) (history : History) (before after : List Event)
    → events_text ports history (before ++ after) ≡ events_text ports history before ++ events_text ports (history ++ before) after
events_append ports history [] after = ap (λ (h : History). events_text ports h after) (sym (append-nil history))
events_append ports history (event ∷ before) after =
    ap (λ (l : List ℕ). event_text ports history event ++ l) (
    events_append ports (history ++ event ∷ []) before after
    ∙ ap (λ (h : History). events_text ports (history ++ event ∷ []) before ++ events_text ports h after) (append_assoc history (event ∷ []) before)
    )
    ∙ sym (append_assoc (event_text ports history event) (events_text ports (history ++ event ∷ []) before) (events_text ports (history ++ event ∷ before) after))

-- a second more
pub seconds_more : (ports : List Port) (history : History) (k : ℕ)
    → events_text ports history (replicate (k + 1) Second) ≡ events_text ports history (replicate k Second) ++ events_text ports (history ++ replicate k Second) (Second ∷ [])
seconds_more ports history k = grind (arith, common_steps, replicate_more, events_append)

pub history_more : (history : History) (k : ℕ) → (history ++ replicate k Second) ++ Second ∷ [] ≡ history ++ replicate (k + 1) Second
history_more history k = append_assoc history (replicate k Second) (Second ∷ []) ∙ ap (λ (l : List Event). history ++ l) (replicate_more k Second)

-- a second among more
pub second_among : (ports : List Port) (history : History) (k n : ℕ) → k < n
    → (rest : List ℕ) × (events_text ports history (replicate n Second)
    ≡ events_text ports history (replicate k Second) ++ (events_text ports (history ++ replicate k Second) (Second ∷ []) ++ rest))
second_among ports history k n below =
    let more = replicate (n - (k + 1)) Second in
    let split : replicate n Second ≡ replicate (k + 1) Second ++ more =
    ap (λ m. replicate m Second) (omega (arith, below)) ∙ sym (replicate-append-replicate (k + 1) (n - (k + 1)) Second) in
    let rest = events_text ports (history ++ replicate (k + 1) Second) more in (
      rest,
      ap (events_text ports history) split ∙ events_append ports history (replicate (k + 1) Second) more
          ∙ ap (λ (l : List ℕ). l ++ rest) (seconds_more ports history k)
          ∙ append_assoc (events_text ports history (replicate k Second)) (events_text ports (history ++ replicate k Second) (Second ∷ [])) rest,
    )

-- what was written of an event, with an outbox that was empty
pub event_written : (ports : List Port) (history : History) (event : Event) (becomes : Outcome) (before sent : List Sent) (start after : List ℕ) → before ≡ []
    → sent ≡ before ++ sends ports most_routes most_services history event → becomes ≡ outcome ports most_routes history event
    → after ≡ start ++ event_lines (reason becomes) sent → after ≡ start ++ events_text ports history (event ∷ [])
event_written ports history event becomes before sent start after none sends_are becoming wrote = grind (arith, event_said, append-nil)
