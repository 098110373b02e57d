-- What an event leaves of a router is within its bounds.
use Rattle.std.proofs.Common.{◌≡◌, sym, ap, ◌∙◌, subst, ℕ, ◌≤◌, List, [], ◌∷◌, ◌++◌, length}
use Rattle.ipx_table.specs.Shares.{IsSharedBy}
use Rattle.ipx_table.specs.declared.held.Held.{Held}
use Rattle.ipx_router.specs.Facts.{route_facts, route_facts_of, routes_held, service_facts, service_facts_of, services_held}
use Rattle.ipx_router.specs.inside.Following.{Follows}
use Rattle.ipx_router.specs.History.{Event, History, IsOnPort, IsOfBytes}
use Rattle.ipx_router.specs.Port.{Port}
use Rattle.ipx_router.specs.RouterOf.{IsRouter}
use Rattle.ipx_router.specs.Routes.{route_rules}
use Rattle.ipx_router.specs.Services.{service_rules}
use Rattle.ipx_router.specs.Shares.{WithinRouteShares, WithinServiceShares, KeepsNew}
use Rattle.ipx_router.specs.Stands.{State, StandsFor}
use Rattle.ipx_router.specs.inside.Within.{StaysWithin}
use Rattle.ipx_router.specs.declared.route_offer.RouteOffer.{RouteOffer}
use Rattle.ipx_router.specs.declared.service_offer.ServiceOffer.{ServiceOffer}
use Rattle.ipx_router.proofs.bounds.RoomIsEnough.{Bounded, few_sent, short_sent}
use Rattle.ipx_router.proofs.histories.StandsOneEventMore.{follows}

-- what is known of capacities and shares after histories
pub record Shared : Type 0 where
  pub few_routes : (ports : List Port) (capacity : ℕ) (history : History) → length (routes_held ports capacity history) ≤ capacity
  pub few_services : (ports : List Port) (capacity : ℕ) (history : History) → length (services_held ports capacity history) ≤ capacity
  pub routes_shared : (ports : List Port) (capacity : ℕ) (history : History) → WithinRouteShares ports (routes_held ports capacity history)
  pub services_shared : (ports : List Port) (capacity : ℕ) (history : History) → WithinServiceShares ports (services_held ports capacity history)
  pub routes_kept : (ports : List Port) (capacity : ℕ) (sharers : List ℕ) (history : History) (event : Event)
      → IsSharedBy (route_rules ports capacity) sharers (route_facts ports (history ++ event ∷ []))
      → KeepsNew (route_rules ports capacity) (route_facts ports history) (route_facts_of ports history event) (routes_held ports capacity (history ++ event ∷ []))
  pub services_kept : (ports : List Port) (capacity : ℕ) (sharers : List ℕ) (history : History) (event : Event)
      → IsSharedBy (service_rules ports capacity) sharers (service_facts ports (history ++ event ∷ []))
      → KeepsNew (service_rules ports capacity) (service_facts ports history) (service_facts_of ports history event) (services_held ports capacity (history ++ event ∷ []))

module _ (most_routes most_services : ℕ) (s : State) (route_shares service_shares : List ℕ) (is : IsRouter most_routes most_services s route_shares service_shares)
    (t : State) (event : Event) (on : IsOnPort s.ports event) (bytes : IsOfBytes event) (step : Follows most_routes most_services s t event) where
  routes_then : (history : History) → StandsFor most_routes most_services s history → t.routes ≡ routes_held s.ports most_routes (history ++ event ∷ [])
  routes_then history stands =
      (follows most_routes most_services s history stands t event step on).routes_stand
      ∙ ap (λ (ports : List Port). routes_held ports most_routes (history ++ event ∷ [])) step.ports

  services_then : (history : History) → StandsFor most_routes most_services s history → t.services ≡ services_held s.ports most_services (history ++ event ∷ [])
  services_then history stands =
      (follows most_routes most_services s history stands t event step on).services_stand
      ∙ ap (λ (ports : List Port). services_held ports most_services (history ++ event ∷ [])) step.ports

  pub stays_within : Bounded → Shared → StaysWithin most_routes most_services s t event
  stays_within bounded known =
      let after = is.past ++ event ∷ [] in
      let routes = routes_then is.past is.stands in
      let services = services_then is.past is.stands in
      record {
        few = few_sent most_routes most_services s route_shares service_shares is t event on bytes step bounded;
        short = short_sent most_routes most_services s route_shares service_shares is t event on bytes step bounded;
        capacity = record {
          routes = subst (λ (held : List (Held RouteOffer)). length held ≤ most_routes) (sym routes) (known.few_routes s.ports most_routes after);
          services = subst (λ (held : List (Held ServiceOffer)). length held ≤ most_services) (sym services) (known.few_services s.ports most_services after);
        };
        route_shares = subst (λ (ports : List Port). WithinRouteShares ports t.routes) (sym step.ports)
            (subst (λ (held : List (Held RouteOffer)). WithinRouteShares s.ports held) (sym routes) (known.routes_shared s.ports most_routes after));
        service_shares = subst (λ (ports : List Port). WithinServiceShares ports t.services) (sym step.ports)
            (subst (λ (held : List (Held ServiceOffer)). WithinServiceShares s.ports held) (sym services) (known.services_shared s.ports most_services after));
        route_room = λ history sharers stands shared.
            subst (λ (held : List (Held RouteOffer)). KeepsNew (route_rules s.ports most_routes) (route_facts s.ports history) (route_facts_of s.ports history event) held)
            (sym (routes_then history stands))
            (known.routes_kept s.ports most_routes sharers history event shared);
        service_room = λ history sharers stands shared.
            subst (λ (held : List (Held ServiceOffer)). KeepsNew (service_rules s.ports most_services) (service_facts s.ports history) (service_facts_of s.ports history event) held)
            (sym (services_then history stands))
            (known.services_kept s.ports most_services sharers history event shared);
      }
