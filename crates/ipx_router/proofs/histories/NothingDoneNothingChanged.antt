-- Where nothing is done for an event, nothing is sent and all stays as it was.
use Rattle.std.proofs.Common.{◌≡◌, refl, sym, ap, ◌∙◌, subst, ℕ, ◌<◌, ◌==◌, ◌&&◌, ◌||◌, not, true, false, true≢false, List, [], ◌∷◌, ◌++◌, length, Option, None, Some, Ok, Err, inl, inr, append-nil, arith}
use Rattle.std.proofs.lemmas.Bool.{cases_Bool, and_from, and_parts, not-true, eqb-true}
use Rattle.std.proofs.Math.Bool.{and-true}
use Rattle.ipx_table.specs.Stands.{held}
use Rattle.ipx_wire.specs.Packet.{packet_of}
use Rattle.ipx_router.specs.Facts.{routes_heard, services_heard, route_facts_of, service_facts_of, route_facts, service_facts, routes_held, services_held, offers}
use Rattle.ipx_router.specs.Heard.{Heard, heard}
use Rattle.ipx_router.specs.History.{Event, History, Start, Stop, Second, Packet, PortDown, PortUp, running, is_down, seconds_run, ports_up, is_start, is_stop, is_second}
use Rattle.ipx_router.specs.Outcomes.{heard_outcome, relayed_outcome, outcome, changes_nothing}
use Rattle.ipx_router.specs.Port.{Port, is_up}
use Rattle.ipx_router.specs.Relays.{Sent, relayed}
use Rattle.ipx_router.specs.Routes.{route_rules}
use Rattle.ipx_router.specs.Sends.{heard_sends, holding, sends}
use Rattle.ipx_router.specs.Services.{service_rules}
use Rattle.ipx_router.specs.Why.{why}
use Rattle.ipx_router.specs.declared.outcome.Outcome.TheVariants.{Dropped}
use Rattle.ipx_router.specs.declared.why.Why.{Why}
use Rattle.ipx_router.proofs.lists.EachElement.{all_then}
use Rattle.ipx_router.proofs.histories.OneEventMore.{or_none, running-more, running-stop, up_is, is_down-more, none_up, among, ups_stay, ports_stay, seconds_stay}
use Rattle.ipx_router.proofs.tables.OffersOfAMessage.{facts_from-more}
use Rattle.ipx_router.proofs.port_values.PortOfEachNumber.{numbers_below}
use Rattle.ipx_router.proofs.verdicts.HeardPassesAllChecks.{unheard}

-- an event sends nothing, says nothing, and leaves a router as it is
pub record Leaves (ports : List Port) (most_routes : ℕ) (history : History) (event : Event) : Type 0 where
  pub sends_none : (most_services : ℕ) → sends ports most_routes most_services history event ≡ []
  pub runs : running (history ++ event ∷ []) ≡ running history
  pub ups : ports_up ports (history ++ event ∷ []) ≡ ports_up ports history
  pub routes : route_facts_of ports history event ≡ []
  pub services : service_facts_of ports history event ≡ []
  pub seconds : running history ≡ true → seconds_run (history ++ event ∷ []) ≡ seconds_run history

-- ---- packets

-- so the packet was dropped
dropped : (o : Option Why) (h : Option Heard) (bytes : List ℕ)
    → changes_nothing (elim o [ Some reason ↦ Dropped reason | None ↦ elim h [ Some message ↦ heard_outcome message | None ↦ relayed_outcome bytes ] ]) ≡ true
    → (reason : Why) × (o ≡ Some reason)
dropped o h bytes e = grind arith

-- and nothing is sent
silent : (o : Option Why) (reason : Why) (rest : List Sent) → o ≡ Some reason
    → ◌≡◌ {A = List Sent} (elim o [ Some reason ↦ [] | None ↦ rest ]) []
silent o reason rest e = grind arith

-- ---- each event

module _ (ports : List Port) (most_routes : ℕ) (history : History) where
  abbrev Nothing : Event → Type 0
  Nothing event = changes_nothing (outcome ports most_routes history event) ≡ true

  -- a stopped router, where the event doesn't start it
  stopped_leaves : (event : Event) → running history ≡ false → running (history ++ event ∷ []) ≡ false
      → ((most_services : ℕ) → sends ports most_routes most_services history event ≡ [])
      → route_facts_of ports history event ≡ [] → service_facts_of ports history event ≡ [] → Leaves ports most_routes history event
  stopped_leaves event stopped later sends_none routes services = grind arith

  stays_stopped : (event : Event) → is_stop event ≡ false → is_start event ≡ false → running history ≡ false → running (history ++ event ∷ []) ≡ false
  stays_stopped event on no_start stopped = grind (arith, running-more)

  -- a running one, where the same ports are down after the event
  running_leaves : (event : Event) → is_stop event ≡ false → is_second event ≡ false → running history ≡ true
      → ((port : ℕ) → port < length ports → is_down (history ++ event ∷ []) port ≡ is_down history port)
      → ((most_services : ℕ) → sends ports most_routes most_services history event ≡ [])
      → route_facts_of ports history event ≡ [] → service_facts_of ports history event ≡ [] → Leaves ports most_routes history event
  running_leaves event on other runs same sends_none routes services = grind (arith, running-more, ups_stay, all_then, numbers_below, seconds_stay)

  start_leaves : Nothing Start → Leaves ports most_routes history Start
  start_leaves e = elim (cases_Bool (running history)) [
    | inl runs ↦
        running_leaves Start refl refl runs (λ port exists. is_down-more history Start port refl runs ∙ and-true (is_down history port)) (λ ms. rw runs refl) refl refl
    | inr stopped ↦ absurd (true≢false (sym (rw stopped at e)))
  ]

  stop_leaves : Nothing Stop → Leaves ports most_routes history Stop
  stop_leaves e = grind (arith, stopped_leaves, running-stop)

  second_leaves : Nothing Second → Leaves ports most_routes history Second
  second_leaves e = grind (arith, stopped_leaves, stays_stopped)

  packet_leaves : (number : ℕ) (bytes : List ℕ) → Nothing (Packet number bytes) → Leaves ports most_routes history (Packet number bytes)
  packet_leaves number bytes e =
      let up = ports_up ports history in
      let routes = offers (routes_held ports most_routes history) in
      let (reason, is) = dropped (why ports up routes (running history) number bytes) (heard ports up (running history) number bytes) bytes e in
      let deaf = unheard ports up routes number bytes (running history) reason is in
      record {
        sends_none = λ ms. silent (why ports up routes (running history) number bytes) reason (rest ms) is;
        runs = running-more history (Packet number bytes) refl ∙ or_none (running history);
        ups = ports_stay ports history (Packet number bytes) refl refl (λ port. refl) (λ port. refl);
        routes = ap (routes_heard ports number) deaf;
        services = ap (services_heard number) deaf;
        seconds = seconds_stay history (Packet number bytes) refl refl;
      }
    where
      -- what would be sent, if no check held
      rest : ℕ → List Sent
      rest most_services =
          elim (heard ports (ports_up ports history) (running history) number bytes) [
            | Some message ↦
                heard_sends ports (holding ports most_routes most_services history) (holding ports most_routes most_services (history ++ Packet number bytes ∷ [])) number
                message
            | None ↦
                elim (packet_of bytes) [ Ok p ↦ relayed ports (ports_up ports history) (offers (routes_held ports most_routes history)) number p | Err fault ↦ [] ]
          ]

  -- a port that isn't up is down, while the router runs; one that is up isn't
  is_down_then : (number : ℕ) → running history ≡ true → number < length ports → is_up (ports_up ports history) number ≡ false → is_down history number ≡ true
  is_down_then number runs exists down = grind (arith, up_is, and_from, among)

  is_up_then : (number : ℕ) → is_up (ports_up ports history) number ≡ true → is_down history number ≡ false
  is_up_then number up = grind (arith, and_parts, up_is, not-true)

  down_leaves : (number : ℕ) → Nothing (PortDown number) → Leaves ports most_routes history (PortDown number)
  down_leaves number e = elim (cases_Bool (running history)) [
    | inr stopped ↦
        let none = none_up ports history stopped in
        stopped_leaves (PortDown number) stopped (stays_stopped (PortDown number) refl refl stopped) (λ ms. rw stopped refl) (rw none refl) (rw none refl)
    | inl runs ↦ elim (cases_Bool (is_up (ports_up ports history) number)) [
      | inl up ↦ absurd (true≢false (sym (rw (up, runs) at e)))
      | inr down ↦
          running_leaves (PortDown number) refl refl runs
          (λ port exists. is_down-more history (PortDown number) port refl runs ∙ again port exists runs down)
          (λ ms. rw (down, runs) refl) (rw down refl) (rw down refl)
    ]
  ]
    where
      again : (port : ℕ) → port < length ports → running history ≡ true → is_up (ports_up ports history) number ≡ false
          → ((number == port) || (is_down history port && true)) ≡ is_down history port
      again port exists runs down = elim (cases_Bool (number == port)) [
        | inl same ↦
            rw same (sym (is_down_then port runs exists (subst (λ (n : ℕ). is_up (ports_up ports history) n ≡ false) (eqb-true number port same) down)))
        | inr other ↦ rw other (and-true (is_down history port))
      ]

  up_leaves : (number : ℕ) → Nothing (PortUp number) → Leaves ports most_routes history (PortUp number)
  up_leaves number e = elim (cases_Bool (running history)) [
    | inr stopped ↦
        stopped_leaves (PortUp number) stopped (stays_stopped (PortUp number) refl refl stopped) (λ ms. rw stopped refl) refl refl
    | inl runs ↦ elim (cases_Bool (is_up (ports_up ports history) number)) [
      | inl up ↦
          running_leaves (PortUp number) refl refl runs (λ port exists. is_down-more history (PortUp number) port refl runs ∙ again port up)
          (λ ms. rw (up, runs) refl) refl refl
      | inr down ↦ absurd (true≢false (sym (rw (down, runs) at e)))
    ]
  ]
    where
      again : (port : ℕ) → is_up (ports_up ports history) number ≡ true → (is_down history port && not (number == port)) ≡ is_down history port
      again port up = elim (cases_Bool (number == port)) [
        | inl same ↦
            let risen = is_up_then port (subst (λ (n : ℕ). is_up (ports_up ports history) n ≡ true) (eqb-true number port same) up) in
            rw (same, risen) refl
        | inr other ↦ rw other (and-true (is_down history port))
      ]

  pub leaves : (event : Event) → Nothing event → Leaves ports most_routes history event
  leaves Start e = start_leaves e
  leaves Stop e = stop_leaves e
  leaves Second e = second_leaves e
  leaves (Packet number bytes) e = packet_leaves number bytes e
  leaves (PortDown number) e = down_leaves number e
  leaves (PortUp number) e = up_leaves number e

  -- ---- what is held

  pub routes_stay : (event : Event) → Nothing event → routes_held ports most_routes (history ++ event ∷ []) ≡ routes_held ports most_routes history
  routes_stay event e =
      ap (held (route_rules ports most_routes))
      (facts_from-more (route_facts_of ports) [] history event ∙ ap (λ fs. route_facts ports history ++ fs) (leaves event e).routes ∙ append-nil (route_facts ports history))

  pub services_stay : (most_services : ℕ) (event : Event) → Nothing event
      → services_held ports most_services (history ++ event ∷ []) ≡ services_held ports most_services history
  services_stay most_services event e =
      ap (held (service_rules ports most_services))
      (facts_from-more (service_facts_of ports) [] history event ∙ ap (λ fs. service_facts ports history ++ fs) (leaves event e).services ∙ append-nil (service_facts ports history))
