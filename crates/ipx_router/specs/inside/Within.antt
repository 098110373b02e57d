-- What an event leaves within its bounds: what it sends, and what the tables have. Only clauses inside the crate speak of it.
use Rattle.std.specs.Prelude.{ℕ, ◌≤◌, List, [], ◌∷◌, ◌++◌, length}
use Rattle.std.specs.List.{AllByRecursion}
use Rattle.ipx_table.specs.Shares.{IsSharedBy}
use Rattle.ipx_router.specs.Bounds.{most_length}
use Rattle.ipx_router.specs.Facts.{route_facts, route_facts_of, service_facts, service_facts_of}
use Rattle.ipx_router.specs.inside.Following.{sends_between}
use Rattle.ipx_router.specs.History.{Event, History}
use Rattle.ipx_router.specs.Needs.{packets_needed}
use Rattle.ipx_router.specs.Routes.{route_rules}
use Rattle.ipx_router.specs.Services.{service_rules}
use Rattle.ipx_router.specs.Shares.{IsWithinCapacity, WithinRouteShares, WithinServiceShares, KeepsNew}
use Rattle.ipx_router.specs.Stands.{State, StandsFor}

-- of a router with tables of those capacities, which the event takes from one state to another
pub record StaysWithin (most_routes most_services : ℕ) (s t : State) (event : Event) : Type 0 where
  pub few : length (sends_between s t event) ≤ packets_needed s event
  pub short : AllByRecursion (λ p. length p.bytes ≤ most_length event) (sends_between s t event)
  pub capacity : IsWithinCapacity most_routes most_services t
  pub route_shares : WithinRouteShares t.ports t.routes
  pub service_shares : WithinServiceShares t.ports t.services
  pub route_room : (history : History) (sharers : List ℕ) → StandsFor most_routes most_services s history
      → IsSharedBy (route_rules s.ports most_routes) sharers (route_facts s.ports (history ++ event ∷ []))
      → KeepsNew (route_rules s.ports most_routes) (route_facts s.ports history) (route_facts_of s.ports history event) t.routes
  pub service_room : (history : History) (sharers : List ℕ) → StandsFor most_routes most_services s history
      → IsSharedBy (service_rules s.ports most_services) sharers (service_facts s.ports (history ++ event ∷ []))
      → KeepsNew (service_rules s.ports most_services) (service_facts s.ports history) (service_facts_of s.ports history event) t.services
