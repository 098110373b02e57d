-- The words of the examples: bytes as hexadecimal text, the router that they are about, and packets that come.
use Rattle.std.proofs.Common.{ℕ, ◌+◌, List, [], ◌∷◌, ◌++◌, Option, Ok, Err, codes, replicate}
use Rattle.std.specs.List.{flat_map}
use Rattle.hex.specs.Hex.{decode_of}
use Rattle.ipx_wire.specs.declared.network.Network.{Network}
use Rattle.ipx_wire.specs.declared.node.Node.{Node}
use Rattle.ipx_table.specs.declared.held.Held.{Held}
use Rattle.ipx_router.specs.Facts.{routes_held, offers}
use Rattle.ipx_router.specs.History.{Event, History, Start, Packet, running, ports_up}
use Rattle.ipx_router.specs.Numbers.{whole_share}
use Rattle.ipx_router.specs.Port.{Port, numbers}
use Rattle.ipx_router.specs.Relays.{Sent}
use Rattle.ipx_router.specs.Sends.{sends}
use Rattle.ipx_router.specs.Why.{why}
use Rattle.ipx_router.specs.declared.route_offer.RouteOffer.{RouteOffer}
use Rattle.ipx_router.specs.declared.why.Why.{Why}

-- the bytes of hexadecimal digits
abbrev pub hex : List ℕ → List ℕ
hex text = elim (decode_of text) [ Ok bytes ↦ bytes | Err e ↦ [] ]

-- node 0000000000xx
abbrev pub node : ℕ → Node
node last = record { 0 = 0 ∷ 0 ∷ 0 ∷ 0 ∷ 0 ∷ last ∷ [] }

abbrev pub network : ℕ → Network
network number = record { 0 = number }

-- a port of cost 1 for packets of up to 576 bytes, with shares that limit nothing
abbrev pub port_on : ℕ → ℕ → Port
port_on number last = record {
  network = network number;
  node = node last;
  cost = 1;
  longest = 576;
  route_share = whole_share;
  service_share = whole_share;
}

-- the router: node 1 on network 10h, node 2 on network 20h
abbrev pub two_ports : List Port
two_ports = port_on 0x10 1 ∷ port_on 0x20 2 ∷ []

-- the router with node 4 on network 40h too
abbrev pub three_ports : List Port
three_ports = two_ports ++ port_on 0x40 4 ∷ []

-- what they send for an event after a history, with room for 256 routes and 128 services
abbrev pub sent_by : History → Event → List Sent
sent_by history event = sends two_ports 256 128 history event

abbrev pub sent_by_three : History → Event → List Sent
sent_by_three history event = sends three_ports 256 128 history event

-- why the one with two ports drops bytes that come on a port after a history, if it does
abbrev pub dropped_by : History → ℕ → List ℕ → Option Why
dropped_by history port bytes =
    why two_ports (ports_up two_ports history) (offers (routes_held two_ports 256 history)) (running history) port bytes

-- a route that is held: network, hops and ticks, by a port and a neighbour there, at an age
abbrev pub held_route : (number hops ticks port : ℕ) → Node → ℕ → Held RouteOffer
held_route number hops ticks port by age = record {
  offer = record { network = network number; hops = hops; ticks = ticks; port = port; node = by };
  age = age;
}

-- a packet on a port to a node
abbrev pub out : ℕ → Node → List ℕ → Sent
out port link bytes = record { port = port; link = link; bytes = bytes }

abbrev pub all_nodes : Node
all_nodes = record { 0 = 0xff ∷ 0xff ∷ 0xff ∷ 0xff ∷ 0xff ∷ 0xff ∷ [] }

-- a request of node AAh on network 10h for all routes
abbrev pub general_request : List ℕ
general_request = hex (codes "FFFF0028000100000010FFFFFFFFFFFF04530000001000000000" ++ codes "00AA04530001FFFFFFFFFFFFFFFF")

-- a response of node BBh on network 20h: network 30h, one hop, two ticks
abbrev pub response : List ℕ
response = hex (codes "FFFF0028000100000020FFFFFFFFFFFF04530000002000000000" ++ codes "00BB045300020000003000010002")

-- what the started router has heard of network 30h
abbrev pub heard_of_30 : History
heard_of_30 = Start ∷ Packet 1 response ∷ []

-- node DDh on network 40h tells network 50h
abbrev pub over_the_third : List ℕ
over_the_third = hex (codes "FFFF0028000100000040FFFFFFFFFFFF0453000000400000000000DD0453" ++ codes "00020000005000010002")

-- and service B of type 4
abbrev pub service_b : List ℕ
service_b = hex (codes "FFFF0060000400000040FFFFFFFFFFFF0452000000400000000000DD0452" ++ codes "0002000442") ++ replicate 50 0 ++ hex (codes "3000000000000104510002")

-- entries for networks in a row, by the last two bytes of the first, all with these hops and ticks
abbrev pub entries : (high first count hops ticks : ℕ) → List ℕ
entries high first count hops ticks = flat_map (λ k. 0 ∷ 0 ∷ high ∷ (first + k) ∷ 0 ∷ hops ∷ 0 ∷ ticks ∷ []) (numbers count)

-- node AAh on network 10h tells networks 101h to 132h
abbrev pub fifty : List ℕ
fifty = hex (codes "FFFF01B0000100000010FFFFFFFFFFFF0453000000100000000000AA0453" ++ codes "0002") ++ entries 1 1 50 1 2
