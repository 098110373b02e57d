-- An internet: routers with ports on networks (IPX Router Specification, internets and network numbers).
use Rattle.std.specs.Prelude.{◌≡◌, ◌≢◌, ℕ, ◌<◌, List, [], length, map, slice_index_or}
use Rattle.std.specs.List.{AllByRecursion, flat_map}
use Rattle.ipx_wire.specs.declared.network.Network.{Network}
use Rattle.ipx_router.specs.Port.{Port, IsPort, AreApart, port_at, numbers}

-- the ports of each router; its networks are those that its ports are on
abbrev pub Internet : Type 0
Internet = List (List Port)

-- a port of a router, by the numbers of both
pub record Place : Type 0 where
  pub router : ℕ
  pub port : ℕ

-- the ports of the router with that number; none, where there is no such router
abbrev pub ports_of : Internet → ℕ → List Port
ports_of net router = slice_index_or net router []

-- the port at a place, and its network
abbrev pub port_of : Internet → Place → Port
port_of net place = port_at (ports_of net place.router) place.port

abbrev pub network_of : Internet → Place → Network
network_of net place = (port_of net place).network

-- there is such a port
abbrev pub IsPlace : Internet → Place → Type 0
IsPlace net place = place.port < length (ports_of net place.router)

-- all ports of an internet, by router and port
abbrev pub places : Internet → List Place
places net =
    flat_map (λ router. map (λ port. record { router = router; port = port }) (numbers (length (ports_of net router)))) (numbers (length net))

-- the routers are such as can be made: their ports are ports, and no two ports of one router are on one network
pub record IsInternet (net : Internet) : Type 0 where
  pub ports : AllByRecursion (AllByRecursion IsPort) net
  pub apart : AllByRecursion AreApart net

-- ports of two routers that are on one network have different nodes
abbrev pub NodesDiffer : Internet → Type 0
NodesDiffer net =
    (a b : Place) → IsPlace net a → IsPlace net b → a.router ≢ b.router → network_of net a ≡ network_of net b
    → (port_of net a).node ≢ (port_of net b).node
