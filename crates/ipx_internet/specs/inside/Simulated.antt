-- What an internet that is simulated keeps true.
use Rattle.std.specs.Prelude.{ℕ, ◌≤◌, List, [], ◌++◌, length, drop}
use Rattle.std.specs.List.{AllByRecursion}
use Rattle.ipx_router.specs.RouterOf.{HasPast}
use Rattle.ipx_router.specs.Stands.{State}
use Rattle.ipx_internet.specs.Internet.{Internet, IsInternet, NodesDiffer}
use Rattle.ipx_internet.specs.Moment.{Moment, net_at}
use Rattle.ipx_internet.specs.Queue.{Delivery}
use Rattle.ipx_internet.specs.Rounds.{IsDelivery}
use Rattle.ipx_internet.specs.inside.Stations.{AreOf}
use Rattle.ipx_internet.specs.declared.stations.Station.{Station}

-- routers, and deliveries that wait
abbrev pub moment : List State → List Delivery → Moment
moment routers queue = record { routers = routers; queue = queue }

-- their ports
abbrev pub net_among : List State → Internet
net_among routers = net_at (moment routers [])

-- routers that make an internet, each with a past, and the stations of their ports
pub record AreRouters (most_routes most_services : ℕ) (routers : List State) (stations : List Station) : Type 0 where
  pub internet : IsInternet (net_among routers)
  pub nodes : NodesDiffer (net_among routers)
  pub pasts : AllByRecursion (HasPast most_routes most_services) routers
  pub stationed : AreOf (net_among routers) stations

-- the same with deliveries that wait: those of one batch that weren't handed out yet, and those of another
pub record IsSimulated (most_routes most_services : ℕ) (routers : List State) (stations : List Station) (front : List Delivery) (done : ℕ) (back : List Delivery) : Type 0 where
  pub sound : AreRouters most_routes most_services routers stations
  pub coming : AllByRecursion (IsDelivery (net_among routers)) (drop done front ++ back)
  pub within : done ≤ length front
