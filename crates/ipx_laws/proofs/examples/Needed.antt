-- What the laws ask for is needed: what becomes of packets and of tables where ports of two routers have one node on one network, which no
-- program can make, and of tables without room.
use Rattle.std.proofs.Common.{◌≡◌, refl, lit<, ℕ, ◌-◌, ◌==◌, if◌then◌else◌, List, [], ◌∷◌, ◌++◌, length, replicate, map, None, Option, option_map, arith}
use Rattle.ipx_wire.specs.Address.{address_bytes, address_at}
use Rattle.ipx_wire.specs.Crossed.{network_bytes, network_at}
use Rattle.ipx_wire.specs.Items.{items}
use Rattle.ipx_wire.specs.Header.{header_bytes, header_at}
use Rattle.ipx_wire.specs.Packet.{packet_of}
use Rattle.ipx_wire.specs.Rip.{entry_bytes, entry_at, rip_of}
use Rattle.ipx_wire.specs.Sap.{sap_of}
use Rattle.ipx_router.specs.Numbers.{period}
use Rattle.ipx_router.specs.History.{Start}
use Rattle.ipx_router.specs.Outgoing.{route_to}
use Rattle.ipx_internet.specs.Internet.{Internet, NodesDiffer}
use Rattle.ipx_internet.specs.Most.{most_on_network}
use Rattle.ipx_internet.specs.Run.{Step, Run, begun}
use Rattle.ipx_internet.specs.Ticks.{a_tick, ticked}
use Rattle.ipx_internet.specs.Tree.{Router, net_of, root, tree_to}
use Rattle.ipx_internet.proofs.examples.Waiting.{segment}
use Rattle.ipx_internet.proofs.examples.Words.{node, network, port_on, route, running, plain, at}
use Rattle.ipx_laws.specs.Least.{Way, least_route, way_of, HasRoom}
use Rattle.ipx_laws.specs.Tables.{routes_of}
use Rattle.ipx_laws.proofs.examples.Leasts.{all, way}

-- ---- packets, where routers 1 and 2 have one node on network 20h: router 0 sends them what is for network 99h, and both send it back

abbrev twins : List Router
twins =
    running (port_on 0x10 1 ∷ port_on 0x20 2 ∷ []) (route 0x99 1 3 ∷ []) ∷ running (port_on 0x20 3 ∷ port_on 0x30 4 ∷ []) (route 0x99 0 2 ∷ [])
    ∷ running (port_on 0x20 3 ∷ port_on 0x40 5 ∷ []) (route 0x99 0 2 ∷ []) ∷ []

pub one_node : NodesDiffer (net_of twins) → ⊥
one_node differ = differ (at 1 0) (at 2 0) (lit< tt) (lit< tt) (λ (e : 1 ≡ 2). omega (arith, e)) refl refl

-- a packet that came through ten may still be sent on six times: each time at router 0 there are twice as many, 1 + 2 + 2 + 4 + 4 + 8 + 8
pub twice_as_many : length (tree_to twins 18 (root (at 0 0) (plain 10 0x99 (node 0xCC)))) ≡ 29
unfolding header_bytes address_bytes network_bytes packet_of header_at address_at items network_at rip_of sap_of
twice_as_many = refl

-- the laws of courses and trees say six forwards, and nine receptions
pub three_ports : most_on_network (net_of twins) ≡ 3
three_ports = refl

-- ---- tables, after a minute from none: every route is real at first, since there is none

abbrev a_period : List (List Step)
a_period = replicate (period - 1) (a_tick 2 0) ++ a_tick 2 2 ∷ []

abbrev a_minute : Internet → ℕ → Run
a_minute net most_routes = ticked net most_routes 1 (begun ((Start ∷ []) ∷ (Start ∷ []) ∷ [])) a_period

-- hops and ticks of the first router's route to 30h and of the second one's to 10h, and those of their least ways
abbrev known : Internet → ℕ → List (Option Way)
known net most_routes =
    map (λ router. option_map way_of (route_to (routes_of net most_routes (a_minute net most_routes).histories router) (if router == 0 then 0x30 else 0x10)))
    (0 ∷ 1 ∷ [])

abbrev should : Internet → List (Option Way)
should net = map (λ router. least_route net (all net) router (network (if router == 0 then 0x30 else 0x10))) (0 ∷ 1 ∷ [])

-- two routers that have one node on the network between them: neither hears the other
abbrev alike : Internet
alike = (port_on 0x10 1 ∷ port_on 0x20 2 ∷ []) ∷ (port_on 0x20 2 ∷ port_on 0x30 4 ∷ []) ∷ []

pub one_node_between : NodesDiffer alike → ⊥
one_node_between differ = differ (at 0 1) (at 1 0) (lit< tt) (lit< tt) (λ (e : 0 ≡ 1). omega (arith, e)) refl refl

pub unheard : known alike 1 ≡ None ∷ None ∷ []
unfolding header_bytes address_bytes network_bytes packet_of header_at address_at items network_at entry_bytes entry_at rip_of sap_of
unheard = refl

pub should_hear : should alike ≡ way 1 2 ∷ way 1 2 ∷ []
should_hear = refl

-- tables without room for one network
pub no_room : HasRoom segment 0 → ⊥
no_room room = let one = room.table.0 in omega (arith, one)

pub not_taken : known segment 0 ≡ None ∷ None ∷ []
unfolding header_bytes address_bytes network_bytes packet_of header_at address_at items network_at entry_bytes entry_at rip_of sap_of
not_taken = refl

pub should_take : should segment ≡ way 1 2 ∷ way 1 2 ∷ []
should_take = refl

-- with room for it, both have it
pub taken : known segment 1 ≡ way 1 2 ∷ way 1 2 ∷ []
unfolding header_bytes address_bytes network_bytes packet_of header_at address_at items network_at entry_bytes entry_at rip_of sap_of
taken = refl
