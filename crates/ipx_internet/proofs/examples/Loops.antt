-- Three routers in a ring, each with a route to network 99h by the next one; and two on one segment, each with one by the other.
use Rattle.std.proofs.Common.{◌≡◌, refl, List, [], ◌∷◌, length, map, Some}
use Rattle.std.specs.List.{slice_get}
use Rattle.ipx_wire.specs.Address.{address_bytes, address_at}
use Rattle.ipx_wire.specs.Crossed.{network_bytes, network_at}
use Rattle.ipx_wire.specs.Items.{items}
use Rattle.ipx_wire.specs.Header.{header_bytes, header_at}
use Rattle.ipx_wire.specs.Packet.{packet_of}
use Rattle.ipx_wire.specs.Rip.{rip_of}
use Rattle.ipx_wire.specs.Sap.{sap_of}
use Rattle.ipx_internet.specs.Most.{most, most_on_network}
use Rattle.ipx_internet.specs.Tree.{Router, net_of, root, levels, tree_to}
use Rattle.ipx_internet.proofs.examples.Words.{node, port_on, route, running, plain, at, copy}

abbrev pub loop : List Router
loop =
    running (port_on 0x10 1 ∷ port_on 0x20 2 ∷ []) (route 0x99 1 3 ∷ []) ∷ running (port_on 0x20 3 ∷ port_on 0x30 4 ∷ []) (route 0x99 1 5 ∷ [])
    ∷ running (port_on 0x30 5 ∷ port_on 0x10 6 ∷ []) (route 0x99 1 1 ∷ []) ∷ []

-- a packet to 99h goes from router to router
pub around : levels loop 5 0 (root (at 0 0) (plain 0 0x99 (node 0xCC)) ∷ [])
    ≡ (root (at 0 0) (plain 0 0x99 (node 0xCC)) ∷ []) ∷ (copy 0 (at 1 0) (plain 1 0x99 (node 0xCC)) ∷ [])
    ∷ (copy 1 (at 2 0) (plain 2 0x99 (node 0xCC)) ∷ []) ∷ (copy 2 (at 0 0) (plain 3 0x99 (node 0xCC)) ∷ [])
    ∷ (copy 3 (at 1 0) (plain 4 0x99 (node 0xCC)) ∷ []) ∷ []
unfolding header_bytes address_bytes network_bytes packet_of header_at address_at items network_at rip_of sap_of
around = refl

-- until it was forwarded sixteen times: seventeen receptions, in turn by the three routers
pub seventeen : map (λ c. c.to.router) (tree_to loop 18 (root (at 0 0) (plain 0 0x99 (node 0xCC))))
    ≡ 0 ∷ 1 ∷ 2 ∷ 0 ∷ 1 ∷ 2 ∷ 0 ∷ 1 ∷ 2 ∷ 0 ∷ 1 ∷ 2 ∷ 0 ∷ 1 ∷ 2 ∷ 0 ∷ 1 ∷ []
unfolding header_bytes address_bytes network_bytes packet_of header_at address_at items network_at rip_of sap_of
seventeen = refl

-- what came with 5 has twelve
pub twelve : length (tree_to loop 18 (root (at 0 0) (plain 5 0x99 (node 0xCC)))) ≡ 12
unfolding header_bytes address_bytes network_bytes packet_of header_at address_at items network_at rip_of sap_of
twelve = refl

-- no network has more than two ports: eighteen receptions at most
pub two_a_network : most_on_network (net_of loop) ≡ 2
two_a_network = refl

pub at_most_nine : most (net_of loop) 8 ≡ 9
at_most_nine = refl

-- ---- two routers

abbrev pair : List Router
pair =
    running (port_on 0x10 1 ∷ port_on 0x20 2 ∷ []) (route 0x30 1 3 ∷ route 0x99 1 3 ∷ [])
    ∷ running (port_on 0x20 3 ∷ port_on 0x30 4 ∷ []) (route 0x10 0 2 ∷ route 0x99 0 2 ∷ []) ∷ []

-- one sends it back to the other: it leaves by the port on which it came, and names the reception before as its parent
pub back_and_forth : levels pair 3 0 (root (at 0 0) (plain 0 0x99 (node 0xCC)) ∷ [])
    ≡ (root (at 0 0) (plain 0 0x99 (node 0xCC)) ∷ []) ∷ (copy 0 (at 1 0) (plain 1 0x99 (node 0xCC)) ∷ [])
    ∷ (copy 1 (at 0 1) (plain 2 0x99 (node 0xCC)) ∷ []) ∷ []
unfolding header_bytes address_bytes network_bytes packet_of header_at address_at items network_at rip_of sap_of
back_and_forth = refl

pub by_both : map (λ c. c.to.router) (tree_to pair 18 (root (at 0 0) (plain 0 0x99 (node 0xCC))))
    ≡ 0 ∷ 1 ∷ 0 ∷ 1 ∷ 0 ∷ 1 ∷ 0 ∷ 1 ∷ 0 ∷ 1 ∷ 0 ∷ 1 ∷ 0 ∷ 1 ∷ 0 ∷ 1 ∷ 0 ∷ []
unfolding header_bytes address_bytes network_bytes packet_of header_at address_at items network_at rip_of sap_of
by_both = refl

-- the last came with 16
pub the_last : slice_get (tree_to pair 18 (root (at 0 0) (plain 0 0x99 (node 0xCC)))) 16 ≡ Some (copy 15 (at 0 1) (plain 16 0x99 (node 0xCC)))
unfolding header_bytes address_bytes network_bytes packet_of header_at address_at items network_at rip_of sap_of
the_last = refl
