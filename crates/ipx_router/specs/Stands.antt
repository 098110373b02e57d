-- A router stands for a history: it is what the history says, and knows when the next periodic second is.
use Rattle.std.specs.Prelude.{◌≡◌, ℕ, ◌%◌, Bool, true, List}
use Rattle.ipx_table.specs.Stands.{Stands}
use Rattle.ipx_table.specs.declared.held.Held.{Held}
use Rattle.ipx_router.specs.Facts.{route_facts, service_facts}
use Rattle.ipx_router.specs.History.{History, running, seconds_run, ports_up}
use Rattle.ipx_router.specs.Numbers.{period}
use Rattle.ipx_router.specs.Port.{Port}
use Rattle.ipx_router.specs.Routes.{route_rules}
use Rattle.ipx_router.specs.Services.{service_rules}
use Rattle.ipx_router.specs.declared.route_offer.RouteOffer.{RouteOffer}
use Rattle.ipx_router.specs.declared.service_offer.ServiceOffer.{ServiceOffer}

-- what a router is, to its callers; `up` are the numbers of the ports that are up, in order, none while it is stopped; `seconds`
-- are those since the last periodic one
pub record State : Type 0 where
  pub ports : List Port
  pub running : Bool
  pub up : List ℕ
  pub seconds : ℕ
  pub routes : List (Held RouteOffer)
  pub services : List (Held ServiceOffer)

-- its tables stand for what was heard, it runs and its ports are up as the history says, and while it runs it counts towards the
-- next periodic second
pub record StandsFor (most_routes most_services : ℕ) (s : State) (history : History) : Type 0 where
  pub routes_stand : Stands (route_rules s.ports most_routes) s.routes (route_facts s.ports history)
  pub services_stand : Stands (service_rules s.ports most_services) s.services (service_facts s.ports history)
  pub runs : s.running ≡ running history
  pub ups : s.up ≡ ports_up s.ports history
  pub counts : s.running ≡ true → s.seconds ≡ seconds_run history % period
