-- Losses: routers stop, and ports go down on networks that are lost, so that in the end no port is up there.
use Rattle.std.specs.Prelude.{◌≡◌, ℕ, ◌<◌, List, [], length}
use Rattle.std.specs.List.{AllByRecursion}
use Rattle.ipx_router.specs.History.{Event, History, Stop, PortDown}
use Rattle.ipx_router.specs.Port.{port_at}
use Rattle.ipx_internet.specs.Internet.{Internet, ports_of}
use Rattle.ipx_internet.specs.Run.{Step, Happens, Settles, begun, run_of}
use Rattle.ipx_laws.specs.Gone.{IsGone}

module _ (net : Internet) (last : List History) where
  -- a router stops, or a port of it goes down that is on a network on which no port is up in the end
  abbrev pub IsLoss : ℕ → Event → Type 0
  IsLoss router Stop = Unit
  IsLoss router (PortDown number) = (number < length (ports_of net router)) × IsGone net last (port_at (ports_of net router) number).network
  IsLoss router event = ⊥

  -- such an event of a router that there is, or a delivery
  abbrev pub IsOfLosses : Step → Type 0
  IsOfLosses (Happens router event) = (router < length net) × IsLoss router event
  IsOfLosses Settles = Unit

-- where nothing waited at first, nothing happens but losses and deliveries, and in the end nothing waits
pub record AreLosses (net : Internet) (most_routes most_services : ℕ) (histories : List History) (steps : List Step) : Type 0 where
  pub losses : AllByRecursion (IsOfLosses net (run_of net most_routes most_services (begun histories) steps).histories) steps
  pub quiet : (run_of net most_routes most_services (begun histories) steps).waiting ≡ []
