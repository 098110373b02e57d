-- The least way of a router to a network: of all ways that lead from router to router, by ports that are up, the one of the fewest
-- ticks and then of the fewest hops.
use Rattle.std.specs.Prelude.{ℕ, zero, suc, ◌+◌, ◌-◌, ◌/◌, ◌==◌, ◌&&◌, ◌||◌, nat_lt, Bool, not, if◌then◌else◌, List, [], ◌∷◌, length, map, Option, None, Some, slice_index_or, ◌≡◌, ◌≢◌, ◌≤◌, ◌<◌, true, false}
use Rattle.std.specs.List.{AllByRecursion, filter, flat_map, list_any}
use Rattle.std.specs.Option.{option_map}
use Rattle.ipx_wire.specs.Crossed.{is_among}
use Rattle.ipx_wire.specs.declared.network.Network.{Network}
use Rattle.ipx_router.specs.Numbers.{most_ticks, period, unreachable}
use Rattle.ipx_router.specs.Outgoing.{port_to}
use Rattle.ipx_router.specs.Port.{Port, port_at, numbers, is_up}
use Rattle.ipx_router.specs.declared.route_offer.RouteOffer.{RouteOffer}
use Rattle.ipx_internet.specs.Internet.{Internet, Place, IsPlace, ports_of, port_of, network_of, places}
use Rattle.ipx_laws.specs.Gone.{most_ticks_gone}

-- how far a network is: how many routers are between, and in ticks what the last one's port on it costs, and each port on which a router
-- advertises the way
pub record Way : Type 0 where
  pub hops : ℕ
  pub ticks : ℕ

-- one way is better than another: by fewer ticks, or by as many ticks and fewer hops
abbrev pub is_better : Way → Way → Bool
is_better a b = nat_lt a.ticks b.ticks || ((a.ticks == b.ticks) && nat_lt a.hops b.hops)

-- the first of two ways, unless the second is better
abbrev pub better_of : Way → Option Way → Way
better_of a None = a
better_of a (Some b) = if is_better b a then b else a

-- the best of the ways that there are
abbrev pub best : List (Option Way) → Option Way
best [] = None
best (None ∷ ways) = best ways
best (Some way ∷ ways) = Some (better_of way (best ways))

-- ---- ways in an internet, where those ports of each router are up

-- a router has a port on the network, up or not; it takes no route to it then
abbrev pub is_on : List Port → Network → Bool
is_on ports network = list_any (λ p. p.network.0 == network.0) ports

-- a router has a port on the network that is up
abbrev pub is_up_on : List Port → List ℕ → Network → Bool
is_up_on ports up network = list_any (λ j. (port_at ports j).network.0 == network.0) up

-- a router's own way to the network of one of its ports that is up: no router is between, and the port costs what it costs
abbrev pub own_way : List Port → List ℕ → Network → Option Way
own_way ports up network = option_map (λ j. record { hops = 0; ticks = (port_at ports j).cost }) (port_to ports up network)

-- a way by a neighbour: one hop more, and the cost of the neighbour's port
abbrev pub by_port : ℕ → Way → Way
by_port cost way = record { hops = way.hops + 1; ticks = way.ticks + cost }

-- the way of a router's neighbour, gone on from that router, where those are the ways of all routers
abbrev pub way_by : Internet → List (Option Way) → Place → Option Way
way_by net ways from = option_map (by_port (port_of net from).cost) (slice_index_or ways from.router None)

module _ (net : Internet) (up : ℕ → List ℕ) where
  -- the ports of other routers that are up, on the networks of a router's ports that are up
  abbrev pub neighbours : ℕ → List Place
  neighbours router =
      filter (λ from. not (from.router == router) && is_up (up from.router) from.port && is_up_on (ports_of net router) (up router) (network_of net from)) (places net)

  -- the best way of a router, where those are the ways of all routers with a hop less: its own, or else the best by a neighbour
  abbrev pub nearest : Network → List (Option Way) → ℕ → Option Way
  nearest network ways router =
      if is_on (ports_of net router) network then own_way (ports_of net router) (up router) network else best (map (way_by net ways) (neighbours router))

  -- the best way of each router of at most that many hops
  abbrev pub ways_within : ℕ → Network → List (Option Way)
  ways_within zero network = map (λ router. own_way (ports_of net router) (up router) network) (numbers (length net))
  ways_within (suc hops) network = map (nearest network (ways_within hops network)) (numbers (length net))

-- a route of more hops isn't taken
abbrev pub most_hops : ℕ
most_hops = unreachable - 1

module _ (net : Internet) (up : ℕ → List ℕ) where
  -- the least way of a router to a network
  abbrev pub least : ℕ → Network → Option Way
  least router network = slice_index_or (ways_within net up most_hops network) router None

  -- the way that a router should have a route for: the least, where it has no port on the network itself
  abbrev pub least_route : ℕ → Network → Option Way
  least_route router network = if is_on (ports_of net router) network then None else least router network

module _ (net : Internet) (up : ℕ → List ℕ) (network : Network) where
  -- what a way is: a router's own, or, where it has no port on the network, that of a neighbour on the network of one of its ports, gone
  -- on; all these ports are up
  pub data IsWay : ℕ → Way → Type 0 where
    direct : {router : ℕ} {way : Way} → own_way (ports_of net router) (up router) network ≡ Some way → IsWay router way
    further : {router : ℕ} {way : Way} (port : ℕ) (from : Place) → is_on (ports_of net router) network ≡ false → from.router ≢ router
        → is_up (up router) port ≡ true → IsPlace net from → is_up (up from.router) from.port ≡ true
        → network_of net (record { router = router; port = port }) ≡ network_of net from
        → IsWay from.router way → IsWay router (by_port (port_of net from).cost way)

-- hops and ticks of a route
abbrev pub way_of : RouteOffer → Way
way_of route = record { hops = route.hops; ticks = route.ticks }

-- ---- an internet whose tables become right

-- that way, unless a route would have too many hops
abbrev pub of_few_hops : Option Way → Option Way
of_few_hops None = None
of_few_hops (Some way) = if nat_lt most_hops way.hops then None else Some way

-- no way of too many hops hides another one: the best that a router is told of, the best of its neighbours' least ways gone on, is its least
-- way, or it has one hop more than a route may have, and then the router has none
pub record FifteenSuffice (net : Internet) (up : ℕ → List ℕ) (network : Network) : Type 0 where
  pub each : (router : ℕ) → router < length net → is_on (ports_of net router) network ≡ false
      → least net up router network ≡ of_few_hops (nearest net up network (ways_within net up most_hops network) router)

-- every port costs the same
abbrev pub CostTheSame : Internet → ℕ → Type 0
CostTheSame net cost = AllByRecursion (AllByRecursion (λ p. p.cost ≡ cost)) net

-- the most that a port may cost, so that the ticks of no way of fifteen hops, which has sixteen ports, are too many for an entry
abbrev pub most_cost : ℕ
most_cost = most_ticks / unreachable

-- no port costs more
abbrev pub AreCheap : Internet → Type 0
AreCheap net = AllByRecursion (AllByRecursion (λ p. p.cost ≤ most_cost)) net

-- networks, each once
abbrev pub each_once : List Network → List Network
each_once [] = []
each_once (network ∷ networks) = if is_among network networks then each_once networks else network ∷ each_once networks

-- the networks of an internet
abbrev pub networks_of : Internet → List Network
networks_of net = each_once (flat_map (λ ports. map (λ p. p.network) ports) net)

-- the networks that a router of those ports may have a route to: those on which it has no port
abbrev pub others_of : Internet → List Port → List Network
others_of net ports = filter (λ network. not (is_on ports network)) (networks_of net)

-- every router's table has room for all of these, and so has the share of each of its ports
pub record HasRoom (net : Internet) (most_routes : ℕ) : Type 0 where
  pub table : AllByRecursion (λ ports. length (others_of net ports) ≤ most_routes) net
  pub shares : AllByRecursion (λ ports. AllByRecursion (λ p. length (others_of net ports) ≤ p.route_share) ports) net

-- the ticks after which a router is right about a network: those after which every route is of a real way, and, for any way of a hop or
-- more, as many as there are from one broadcast of all to the next
abbrev pub ticks_right : Option Way → ℕ
ticks_right None = most_ticks_gone
ticks_right (Some way) = if way.hops == 0 then most_ticks_gone else most_ticks_gone + period

-- about every network
abbrev pub most_ticks_right : ℕ
most_ticks_right = most_ticks_gone + period
