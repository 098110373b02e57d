-- A port of a router (IPX Router Specification, networks, nodes and costs in ticks).
use Rattle.std.specs.Prelude.{◌≡◌, ◌≢◌, ℕ, zero, suc, ◌^◌, ◌<◌, ◌≤◌, ◌⊎◌, ◌==◌, ◌||◌, nat_eq, Bool, List, [], ◌∷◌, ◌++◌, length, replicate, slice_index_or}
use Rattle.std.specs.Cmp.Lexicographic.{pointwise}
use Rattle.std.specs.List.{list_any, AllByRecursion}
use Rattle.ipx_wire.specs.Piece.{IsBytes}
use Rattle.ipx_wire.specs.declared.address.Address.{Address}
use Rattle.ipx_wire.specs.declared.network.Network.{Network}
use Rattle.ipx_wire.specs.declared.node.Node.{Node}
use Rattle.ipx_router.specs.Numbers.{rip_socket, sap_socket, local_network, default_route, all_routes, least_longest, node_size, all_ones}
use Rattle.ipx_router.specs.declared.port.PortFault.{PortFault}
use Rattle.ipx_router.specs.declared.port.PortFault.TheVariants.{Longest, Cost, Network as BadNetwork, Node as BadNode}

-- the port's network and its node there, its cost in ticks, the length of the longest packet that may leave on it, and its shares
-- of the tables: how many of the routes and of the services that are held may have come by it (own)
pub record Port : Type 0 where
  pub network : Network
  pub node : Node
  pub cost : ℕ
  pub longest : ℕ
  pub route_share : ℕ
  pub service_share : ℕ

-- the node that stands for all nodes of a network
abbrev pub broadcast : Node
broadcast = record { 0 = replicate node_size all_ones }

-- ---- values that make a port

-- numbers that no port's network may have: those of the local network, of the default route and of all routes
abbrev pub IsReserved : Network → Type 0
IsReserved network = (network.0 ≡ local_network) ⊎ (default_route ≤ network.0)

-- values that make a port: the cost fits into two bytes, and any shares will do
pub record IsPort (p : Port) : Type 0 where
  pub longest : least_longest ≤ p.longest
  pub cost : 0 < p.cost
  pub ticks : p.cost < 2 ^ 16
  pub some_network : local_network < p.network.0
  pub ordinary_network : p.network.0 < default_route
  pub six_bytes : length p.node.0 ≡ node_size
  pub bytes : IsBytes p.node.0
  pub node : p.node ≢ broadcast

-- why values make no port: the first fault that holds
abbrev pub IsNoPort : Network → Node → ℕ → ℕ → PortFault → Type 0
IsNoPort network node cost longest Longest = longest < least_longest
IsNoPort network node cost longest Cost = (least_longest ≤ longest) × (cost ≡ 0)
IsNoPort network node cost longest BadNetwork = (least_longest ≤ longest) × (0 < cost) × IsReserved network
IsNoPort network node cost longest BadNode =
    (least_longest ≤ longest) × (0 < cost) × (local_network < network.0) × (network.0 < default_route) × (node ≡ broadcast)

-- ports that one router may have: no two of them are on one network
abbrev pub AreApart : List Port → Type 0
AreApart [] = Unit
AreApart (p ∷ ports) = AllByRecursion (λ q. q.network ≢ p.network) ports × AreApart ports

-- ---- ports by their numbers

-- the port of that number, counted from 0; past the last, one on network 0, which is no port's
abbrev pub port_at : List Port → ℕ → Port
port_at ports number =
    slice_index_or ports number
    (record { network = record { 0 = local_network }; node = broadcast; cost = 0; longest = 0; route_share = 0; service_share = 0 })

-- the numbers below n, in order
abbrev pub numbers : ℕ → List ℕ
numbers zero = []
numbers (suc n) = numbers n ++ n ∷ []

-- the number is among those of the ports that are up
abbrev pub is_up : List ℕ → ℕ → Bool
is_up up number = list_any (λ j. j == number) up

-- ---- addresses

-- the address of the RIP process of a port, and that of all RIP processes on its network
abbrev pub own_address : Port → Address
own_address port = record { network = port.network; node = port.node; socket = record { 0 = rip_socket } }

abbrev pub everyone : Port → Address
everyone port = record { network = port.network; node = broadcast; socket = record { 0 = rip_socket } }

-- the address of the SAP process of a port, and that of all SAP processes on its network
abbrev pub own_services : Port → Address
own_services port = record { network = port.network; node = port.node; socket = record { 0 = sap_socket } }

abbrev pub every_server : Port → Address
every_server port = record { network = port.network; node = broadcast; socket = record { 0 = sap_socket } }

-- where a request is answered: the asker's node and socket, on the port's own network
abbrev pub reply_to : Port → Address → Address
reply_to port source = record { network = port.network; node = source.node; socket = source.socket }

-- the nodes are the same, byte by byte
abbrev pub same_node : Node → Node → Bool
same_node a b = pointwise nat_eq a.0 b.0

-- the number means the port's own network: it is 0, or that network's
abbrev pub is_local : Port → Network → Bool
is_local port network = (network.0 == local_network) || (network.0 == port.network.0)

-- networks to which no route is taken: the local one, that of all routes, and those of the router's own ports, up or not
abbrev pub takes_no_route : List Port → Network → Bool
takes_no_route ports network =
    (network.0 == local_network) || (network.0 == all_routes) || list_any (λ p. p.network.0 == network.0) ports
