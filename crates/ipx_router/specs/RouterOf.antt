-- Ports that make a router, and what a router keeps true.
use Rattle.std.specs.Prelude.{◌≡◌, ℕ, ◌^◌, ◌<◌, ◌≤◌, false, List, [], length, map}
use Rattle.std.specs.List.{AllByRecursion}
use Rattle.ipx_router.specs.History.{History, IsOnPort, IsOfBytes}
use Rattle.ipx_router.specs.Numbers.{period, most_ports}
use Rattle.ipx_router.specs.Port.{Port, IsPort, AreApart}
use Rattle.ipx_router.specs.Stands.{State, StandsFor}
use Rattle.ipx_router.specs.declared.ports_fault.PortsFault.{PortsFault}
use Rattle.ipx_router.specs.declared.ports_fault.PortsFault.TheVariants.{NoPort, TooMany, SameNetwork}

-- why ports make no router that has at most this many, the first that holds
abbrev pub IsNoRouter : ℕ → List Port → PortsFault → Type 0
IsNoRouter most ports NoPort = ports ≡ []
IsNoRouter most ports TooMany = most < length ports
IsNoRouter most ports SameNetwork = (1 ≤ length ports) × (length ports ≤ most) × (AreApart ports → ⊥)

-- a router as it is made, of those ports
abbrev pub made_of : List Port → State
made_of ports = record { ports = ports; running = false; up = []; seconds = 0; routes = []; services = [] }

-- a router with tables of those capacities and shares: it has ports that it may have, and stands for some history
pub record IsRouter (most_routes most_services : ℕ) (s : State) (route_shares service_shares : List ℕ) : Type 0 where
  pub routes_fit : most_routes < 2 ^ 16
  pub services_fit : most_services < 2 ^ 16
  pub some : 1 ≤ length s.ports
  pub few : length s.ports ≤ most_ports
  pub are : AllByRecursion IsPort s.ports
  pub apart : AreApart s.ports
  pub minute : s.seconds < period
  pub routes_shared : route_shares ≡ map (λ p. p.route_share) s.ports
  pub services_shared : service_shares ≡ map (λ p. p.service_share) s.ports
  pub past : History
  pub stands : StandsFor most_routes most_services s past
  pub on_ports : AllByRecursion (IsOnPort s.ports) past
  pub of_bytes : AllByRecursion IsOfBytes past

-- a router with tables of those capacities has a past: it stands for a history of bytes on its ports
pub record HasPast (most_routes most_services : ℕ) (s : State) : Type 0 where
  pub past : History
  pub stands : StandsFor most_routes most_services s past
  pub on_ports : AllByRecursion (IsOnPort s.ports) past
  pub of_bytes : AllByRecursion IsOfBytes past
