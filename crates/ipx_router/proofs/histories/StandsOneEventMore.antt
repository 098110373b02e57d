-- A router that stands for a history stands for it with one event more, after what that event does.
use Rattle.std.proofs.Common.{◌≡◌, refl, sym, ap, ◌∙◌, subst, ℕ, ◌+◌, ◌%◌, ◌==◌, Bool, true, false, true≢false, List, [], ◌∷◌, ◌++◌, filter, length, length-append, Option, arith}
use Rattle.std.proofs.lemmas.List.Elements.{filter-append}
use Rattle.ipx_table.specs.Facts.{Fact}
use Rattle.ipx_table.specs.Stands.{Stands}
use Rattle.ipx_router.specs.Facts.{facts_of, route_facts, service_facts}
use Rattle.ipx_router.specs.inside.Following.{Follows, runs_after, up_after, seconds_after, route_facts_at, service_facts_at, holding_of, is_next_periodic, sends_between, outcome_at}
use Rattle.ipx_router.specs.Heard.{Heard, heard}
use Rattle.ipx_router.specs.History.{Event, History, Start, Stop, Second, Packet, PortDown, PortUp, IsOnPort, is_second, is_stop, running, seconds_run, ports_up}
use Rattle.ipx_router.specs.Numbers.{period}
use Rattle.ipx_router.specs.Outcomes.{outcome}
use Rattle.ipx_router.specs.Port.{Port}
use Rattle.ipx_router.specs.Routes.{route_rules}
use Rattle.ipx_router.specs.Sends.{Holding, holding, is_periodic, sends_of, sends}
use Rattle.ipx_router.specs.Services.{service_rules}
use Rattle.ipx_router.specs.Stands.{State, StandsFor}
use Rattle.ipx_router.specs.declared.route_offer.RouteOffer.{RouteOffer}
use Rattle.ipx_router.specs.declared.service_offer.ServiceOffer.{ServiceOffer}
use Rattle.ipx_router.proofs.histories.OneEventMore.{present_run-more}
use Rattle.ipx_router.proofs.tables.OffersOfAMessage.{facts_from-more}
use Rattle.ipx_router.proofs.histories.PortsUpOneEventMore.{running_then, present_run-first, ups_then}

-- ---- the count of seconds

seconds_more : (history : History) (event : Event) → is_stop event ≡ false → running history ≡ true
    → seconds_run (history ++ event ∷ []) ≡ seconds_run history + length (filter is_second (event ∷ []))
seconds_more history event on runs = grind (arith, present_run-more, filter-append, length-append)

seconds_same : (history : History) (event : Event) → is_stop event ≡ false → running history ≡ true → is_second event ≡ false
    → seconds_run (history ++ event ∷ []) ≡ seconds_run history
seconds_same history event on runs other = seconds_more history event on runs ∙ rw other (omega arith)

-- while the router runs, after one event more
seconds_then : (history : History) (event : Event) (runs : Bool) (seconds : ℕ) → running history ≡ runs → runs_after runs event ≡ true
    → (runs ≡ true → seconds ≡ seconds_run history % period)
    → seconds_after runs seconds event ≡ seconds_run (history ++ event ∷ []) % period
seconds_then history Start false seconds is later counts = ap (λ events. length (filter is_second events) % period) (sym (present_run-first history is))
seconds_then history Start true seconds is later counts = counts refl ∙ ap (λ n. n % period) (sym (seconds_same history Start refl is refl))
seconds_then history Stop runs seconds is later counts = absurd (true≢false (sym later))
seconds_then history Second false seconds is later counts = absurd (true≢false (sym later))
seconds_then history Second true seconds is later counts =
    let more : seconds_run (history ++ Second ∷ []) ≡ seconds_run history + 1 = seconds_more history Second refl is in
    omega (arith, more, counts refl)
seconds_then history (Packet number bytes) false seconds is later counts = absurd (true≢false (sym later))
seconds_then history (Packet number bytes) true seconds is later counts =
    counts refl ∙ ap (λ n. n % period) (sym (seconds_same history (Packet number bytes) refl is refl))
seconds_then history (PortDown number) false seconds is later counts = absurd (true≢false (sym later))
seconds_then history (PortDown number) true seconds is later counts =
    counts refl ∙ ap (λ n. n % period) (sym (seconds_same history (PortDown number) refl is refl))
seconds_then history (PortUp number) false seconds is later counts = absurd (true≢false (sym later))
seconds_then history (PortUp number) true seconds is later counts =
    counts refl ∙ ap (λ n. n % period) (sym (seconds_same history (PortUp number) refl is refl))

-- ---- what an event says, by the state

module _ (most_routes most_services : ℕ) (s : State) (history : History) (stands : StandsFor most_routes most_services s history) where
  said : {O : Type 0} (says : ℕ → Option Heard → List (Fact O)) (event : Event)
      → facts_of (ports_up s.ports history) (running history) (λ number bytes. says number (heard s.ports (ports_up s.ports history) (running history) number bytes)) event
      ≡ facts_of s.up s.running (λ number bytes. says number (heard s.ports s.up s.running number bytes)) event
  said says event = grind arith

  routes_then : (event : Event) → route_facts s.ports (history ++ event ∷ []) ≡ route_facts s.ports history ++ route_facts_at s event
  routes_then event = grind (arith, facts_from-more, said)

  services_then : (event : Event) → service_facts s.ports (history ++ event ∷ []) ≡ service_facts s.ports history ++ service_facts_at s event
  services_then event = grind (arith, facts_from-more, said)

  -- ---- the step

  pub follows : (t : State) (event : Event) → Follows most_routes most_services s t event → IsOnPort s.ports event
      → StandsFor most_routes most_services t (history ++ event ∷ [])
  follows t event step on = record {
    routes_stand =
        subst (λ (ports : List Port). Stands (route_rules ports most_routes) t.routes (route_facts ports (history ++ event ∷ []))) (sym step.ports)
        (subst (λ (facts : List (Fact RouteOffer)). Stands (route_rules s.ports most_routes) t.routes facts) (sym (routes_then event))
        (step.routes (route_facts s.ports history) stands.routes_stand));
    services_stand =
        subst (λ (ports : List Port). Stands (service_rules ports most_services) t.services (service_facts ports (history ++ event ∷ []))) (sym step.ports)
        (subst (λ (facts : List (Fact ServiceOffer)). Stands (service_rules s.ports most_services) t.services facts) (sym (services_then event))
        (step.services (service_facts s.ports history) stands.services_stand));
    runs = step.runs ∙ ap (λ runs. runs_after runs event) stands.runs ∙ sym (running_then history event);
    ups = step.ups ∙ ap (λ up. up_after (length s.ports) s.running up event) stands.ups
        ∙ ap (λ runs. up_after (length s.ports) runs (ports_up s.ports history) event) stands.runs
        ∙ sym (ups_then s.ports history event on) ∙ ap (λ ports. ports_up ports (history ++ event ∷ [])) (sym step.ports);
    counts = λ later.
        step.counts later ∙ seconds_then history event s.running s.seconds (sym stands.runs) (sym step.runs ∙ later) stands.counts;
  }

-- ---- what an event sends, and becomes, by the state

pub held_same : (most_routes most_services : ℕ) (s : State) (history : History) → StandsFor most_routes most_services s history
    → holding s.ports most_routes most_services history ≡ holding_of s
held_same most_routes most_services s history stands = grind arith

-- a stopped router does not ask whether a second is periodic
periodic_same : (ports : List Port) (before after : Holding) (event : Event) (runs p q : Bool) → (runs ≡ true → p ≡ q)
    → sends_of ports before after runs p event ≡ sends_of ports before after runs q event
periodic_same ports before after event runs p q same = grind arith

next_counts : (seconds run : ℕ) → seconds ≡ run % period → ((run + 1) % period == 0) ≡ ((seconds + 1) % period == 0)
next_counts seconds run e = grind arith

-- what it sends after the history is what it sends between the two states
pub sends_stand : (most_routes most_services : ℕ) (s t : State) (history : History) (event : Event)
    → StandsFor most_routes most_services s history → StandsFor most_routes most_services t (history ++ event ∷ []) → t.ports ≡ s.ports
    → sends s.ports most_routes most_services history event ≡ sends_between s t event
sends_stand most_routes most_services s t history event stands later same =
    let after = history ++ event ∷ [] in
    ap (λ (before : Holding). sends_of s.ports before (holding s.ports most_routes most_services after) (running history) (is_periodic history) event)
    (held_same most_routes most_services s history stands)
    ∙ ap (λ (held : Holding). sends_of s.ports (holding_of s) held (running history) (is_periodic history) event)
    (ap (λ (ports : List Port). holding ports most_routes most_services after) (sym same) ∙ held_same most_routes most_services t after later)
    ∙ ap (λ (runs : Bool). sends_of s.ports (holding_of s) (holding_of t) runs (is_periodic history) event) (sym stands.runs)
    ∙ periodic_same s.ports (holding_of s) (holding_of t) event s.running (is_periodic history) (is_next_periodic s)
    (λ runs. next_counts s.seconds (seconds_run history) (stands.counts runs))

-- and it becomes the same
pub outcome_stand : (most_routes most_services : ℕ) (s : State) (history : History) (event : Event) → StandsFor most_routes most_services s history
    → outcome s.ports most_routes history event ≡ outcome_at s event
outcome_stand most_routes most_services s history event stands = grind arith
