-- Tables in memory that are right.
use Rattle.std.specs.Prelude.{◌≡◌, ℕ, List, [], Some, slice_get}
use Rattle.std.specs.Option.{option_map}
use Rattle.ipx_wire.specs.declared.network.Network.{Network}
use Rattle.ipx_router.specs.Facts.{offers}
use Rattle.ipx_router.specs.History.{History}
use Rattle.ipx_router.specs.Outgoing.{route_to}
use Rattle.ipx_router.specs.Stands.{State}
use Rattle.ipx_internet.specs.Moment.{Moment, StandsFor, net_at}
use Rattle.ipx_laws.specs.Least.{way_of, least_route}
use Rattle.ipx_laws.specs.Ups.{ups}

-- in each table in memory the route to a network is one of the least way over the ports that were up at first, and there is none where there
-- is no way
pub record HasLeastWays (most_routes most_services : ℕ) (old new : Moment) : Type 0 where
  pub histories : List History
  pub stands : StandsFor most_routes most_services old (record { histories = histories; queue = [] })
  pub right : (number : ℕ) (s : State) (network : Network) → slice_get new.routers number ≡ Some s
      → option_map way_of (route_to (offers s.routes) network.0) ≡ least_route (net_at old) (ups (net_at old) histories) number network
