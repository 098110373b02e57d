-- An internet at a moment: its routers, and the deliveries that wait.
use Rattle.std.specs.Prelude.{◌≡◌, ℕ, ◌<◌, List, length, map, Some, slice_get}
use Rattle.ipx_router.specs.History.{Event, IsOnPort}
use Rattle.ipx_router.specs.Port.{Port, port_at}
use Rattle.ipx_router.specs.Stands.{State, StandsFor as RouterStandsFor}
use Rattle.ipx_internet.specs.Internet.{Internet, Place, port_of, network_of, IsPlace, ports_of}
use Rattle.ipx_internet.specs.Queue.{Delivery, Queued, history_of}

-- the routers in the order of their numbers, and the deliveries that wait, the first one first
pub record Moment : Type 0 where
  pub routers : List State
  pub queue : List Delivery

-- the ports of its routers
abbrev pub net_at : Moment → Internet
net_at m = map (λ s. s.ports) m.routers

-- each router stands for its history, and what waits is the queue
pub record StandsFor (most_routes most_services : ℕ) (m : Moment) (q : Queued) : Type 0 where
  pub each : length q.histories ≡ length m.routers
  pub routers : (number : ℕ) (s : State) → slice_get m.routers number ≡ Some s
      → RouterStandsFor most_routes most_services s (history_of q.histories number)
  pub queue : m.queue ≡ q.queue

-- there is such a router, and the port that the event names, if it names one, is one of its ports
abbrev pub IsThere : Moment → ℕ → Event → Type 0
IsThere m router event = (router < length m.routers) × IsOnPort (ports_of (net_at m) router) event

-- a port of one of the routers has that port's network and node
pub record HasNode (net : Internet) (port : Port) : Type 0 where
  pub place : Place
  pub there : IsPlace net place
  pub network : network_of net place ≡ port.network
  pub node : (port_of net place).node ≡ port.node

-- the same of one of some ports
abbrev pub SharesNode : Internet → List Port → Type 0
SharesNode net ports = (number : ℕ) × (number < length ports) × HasNode net (port_at ports number)
