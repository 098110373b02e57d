-- A router between two seconds of a line.
use Rattle.std.proofs.Common.{◌≡◌, ℕ, ◌+◌, ◌<◌, false, List, [], ◌∷◌, ◌++◌, sym, subst, ◌∙◌, replicate, append-nil, Err, arith}
use Rattle.ipx_wire.specs.Ends.{Output}
use Rattle.ipx_router.specs.History.{History, Second}
use Rattle.ipx_router.specs.Port.{Port}
use Rattle.ipx_router.specs.Stands.{State, StandsFor}
use Rattle.ipx_cmd.specs.inside.Acted.{Added}
use Rattle.ipx_cmd.specs.EventText.{events_text, most_routes, most_services}
use Rattle.ipx_cmd.specs.inside.Said.{Says}
use Rattle.ipx_cmd.specs.declared.ended.RunFault.{RunFault}
use Rattle.ipx_cmd.proofs.written.TextOfEvents.{seconds_more, history_more, second_among}
use Rattle.ipx_cmd.proofs.written.AddedOneAfterAnother.{added_kept, added_then, cut_then}

-- so many seconds have passed, and their text was added
pub record SoFar (before now : State) (from to : Output) (old new : List ℕ) (k : ℕ) : Type 0 where
  pub ports : now.ports ≡ before.ports
  pub fine : to.failed ≡ false
  pub stands : (h : History) → StandsFor most_routes most_services before h → StandsFor most_routes most_services now (h ++ replicate k Second)
  pub added : (h : History) → StandsFor most_routes most_services before h → Added from to old new (events_text before.ports h (replicate k Second))

pub none_yet : (s : State) (o : Output) (text : List ℕ) → o.failed ≡ false → SoFar s s o o text text 0
none_yet s o text fine = grind (arith, append-nil, added_kept)

pub one_more : (before mid now : State) (from between to : Output) (old text new : List ℕ) (k : ℕ) → SoFar before mid from between old text k
    → now.ports ≡ mid.ports → to.failed ≡ false
    → ((h : History) → StandsFor most_routes most_services mid h → StandsFor most_routes most_services now (h ++ Second ∷ []))
    → ((h : History) → StandsFor most_routes most_services mid h → Added between to text new (events_text mid.ports h (Second ∷ [])))
    → SoFar before now from to old new (k + 1)
one_more before mid now from between to old text new k so ports fine stands added = record {
  ports = ports ∙ so.ports;
  fine = fine;
  stands = λ h was. subst (StandsFor most_routes most_services now) (history_more h k) (stands (h ++ replicate k Second) (so.stands h was));
  added = λ h was.
      let first : events_text before.ports h (replicate (k + 1) Second) ≡ events_text before.ports h (replicate k Second) ++ events_text before.ports (h ++ replicate k Second) (Second ∷ []) =
      seconds_more before.ports h k in
      let then : Added between to text new (events_text before.ports (h ++ replicate k Second) (Second ∷ [])) =
      subst (λ (ports : List Port). Added between to text new (events_text ports (h ++ replicate k Second) (Second ∷ []))) so.ports (added (h ++ replicate k Second) (so.stands h was)) in
      subst (Added from to old new) (sym first)
      (added_then from between to old text new (events_text before.ports h (replicate k Second)) (events_text before.ports (h ++ replicate k Second) (Second ∷ [])) (so.added h was) then);
}

-- the run was given up in the next second
pub cut_short : (before mid : State) (from between to : Output) (old text new : List ℕ) (k n : ℕ) (why : RunFault) → SoFar before mid from between old text k → k < n
    → ((h : History) → StandsFor most_routes most_services mid h → Says between to text new (events_text mid.ports h (Second ∷ [])) (Err why))
    → (h : History) → StandsFor most_routes most_services before h → Says from to old new (events_text before.ports h (replicate n Second)) (Err why)
cut_short before mid from between to old text new k n why so below says h was =
    let among = second_among before.ports h k n below in
    let here : Says between to text new (events_text before.ports (h ++ replicate k Second) (Second ∷ [])) (Err why) =
    subst (λ (ports : List Port). Says between to text new (events_text ports (h ++ replicate k Second) (Second ∷ [])) (Err why)) so.ports (says (h ++ replicate k Second) (so.stands h was)) in
    cut_then from between to old text new (events_text before.ports h (replicate k Second)) (events_text before.ports (h ++ replicate k Second) (Second ∷ [])) among.0
    (events_text before.ports h (replicate n Second)) why (so.added h was) here among.1
