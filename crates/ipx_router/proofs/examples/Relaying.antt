-- Packets for other networks, and for all networks.
use Rattle.std.proofs.Common.{◌≡◌, ℕ, List, [], ◌∷◌, ◌++◌, refl, codes, replicate}
use Rattle.hex.specs.Hex.{decode_pairs}
use Rattle.ipx_wire.specs.Address.{address_bytes, address_at}
use Rattle.ipx_wire.specs.Crossed.{network_bytes, network_at}
use Rattle.ipx_wire.specs.Header.{header_bytes, header_at}
use Rattle.ipx_wire.specs.Items.{items}
use Rattle.ipx_wire.specs.Name.{name_of, name_field}
use Rattle.ipx_wire.specs.Packet.{packet_of}
use Rattle.ipx_wire.specs.Rip.{rip_of, entry_at, entry_bytes}
use Rattle.ipx_wire.specs.Sap.{sap_of}
use Rattle.ipx_wire.specs.SapEntries.{sap_entry_at}
use Rattle.ipx_wire.specs.WriteServices.{service_bytes}
use Rattle.ipx_router.specs.History.{Start, Packet}
use Rattle.ipx_router.proofs.examples.Words.{hex, node, sent_by, out, all_nodes, heard_of_30}

-- from node AAh on network 10h to node CCh on network 20h
abbrev to_c : List ℕ
to_c = (hex (codes "FFFF001E0000000000200000000000CC4003000000100000000000AA" ++ codes "4003"))

-- with bytes behind it
abbrev padded : List ℕ
padded = (hex (codes "FFFF001E0000000000200000000000CC4003000000100000000000AA" ++ codes "4003")) ++ replicate 30 0

-- through fifteen routers
abbrev far_to_c : List ℕ
far_to_c = (hex (codes "FFFF001E0F00000000200000000000CC4003000000100000000000AA" ++ codes "4003"))

-- to node CCh on network 30h
abbrev beyond : List ℕ
beyond = (hex (codes "FFFF001E0000000000300000000000CC4003000000100000000000AA" ++ codes "4003"))

-- with a checksum
abbrev checked : List ℕ
checked = (hex (codes "1234001E0000000000200000000000CC4003000000100000000000AA" ++ codes "4003"))

-- as long as the outgoing port allows
abbrev longest : List ℕ
longest = (hex (codes "FFFF02400000000000200000000000CC4003000000100000000000AA" ++ codes "4003") ++ replicate 546 0)

-- to a network of the router's own the node itself is the link
pub to_a_direct_network : sent_by (Start ∷ []) (Packet 0 to_c)
    ≡ out 1 (node 0xCC) (hex (codes "FFFF001E0100000000200000000000CC4003000000100000000000AA" ++ codes "4003"))
    ∷ []
unfolding decode_pairs header_bytes address_bytes entry_bytes network_bytes service_bytes name_field packet_of header_at address_at rip_of entry_at sap_of items sap_entry_at name_of network_at
to_a_direct_network = refl

-- padding isn't sent on
pub padding_stays_behind : sent_by (Start ∷ []) (Packet 0 padded)
    ≡ out 1 (node 0xCC) (hex (codes "FFFF001E0100000000200000000000CC4003000000100000000000AA" ++ codes "4003"))
    ∷ []
unfolding decode_pairs header_bytes address_bytes entry_bytes network_bytes service_bytes name_field packet_of header_at address_at rip_of entry_at sap_of items sap_entry_at name_of network_at
padding_stays_behind = refl

-- what came through fifteen routers leaves with sixteen
pub through_fifteen : sent_by (Start ∷ []) (Packet 0 far_to_c)
    ≡ out 1 (node 0xCC) (hex (codes "FFFF001E1000000000200000000000CC4003000000100000000000AA" ++ codes "4003"))
    ∷ []
unfolding decode_pairs header_bytes address_bytes entry_bytes network_bytes service_bytes name_field packet_of header_at address_at rip_of entry_at sap_of items sap_entry_at name_of network_at
through_fifteen = refl

-- to any other network the neighbour that told the route is the link
pub by_a_route : sent_by heard_of_30 (Packet 0 beyond)
    ≡ out 1 (node 0xBB) (hex (codes "FFFF001E0100000000300000000000CC4003000000100000000000AA" ++ codes "4003"))
    ∷ []
unfolding decode_pairs header_bytes address_bytes entry_bytes network_bytes service_bytes name_field packet_of header_at address_at rip_of entry_at sap_of items sap_entry_at name_of network_at
by_a_route = refl

-- a checksum is carried as it came
pub with_its_checksum : sent_by (Start ∷ []) (Packet 0 checked)
    ≡ out 1 (node 0xCC) (hex (codes "1234001E0100000000200000000000CC4003000000100000000000AA" ++ codes "4003"))
    ∷ []
unfolding decode_pairs header_bytes address_bytes entry_bytes network_bytes service_bytes name_field packet_of header_at address_at rip_of entry_at sap_of items sap_entry_at name_of network_at
with_its_checksum = refl

-- 576 bytes pass
pub just_short_enough : sent_by (Start ∷ []) (Packet 0 longest)
    ≡ out 1 (node 0xCC) (hex (codes "FFFF02400100000000200000000000CC4003000000100000000000AA" ++ codes "4003") ++ replicate 546 0)
    ∷ []
unfolding decode_pairs header_bytes address_bytes entry_bytes network_bytes service_bytes name_field packet_of header_at address_at rip_of entry_at sap_of items sap_entry_at name_of network_at
just_short_enough = refl

-- network 30h is fifteen hops away
abbrev far_response : List ℕ
far_response = (hex (codes "FFFF0028000100000020FFFFFFFFFFFF0453000000200000000000BB" ++ codes "0453000200000030000F0002"))

-- a route of fifteen hops isn't told, and packets go by it
pub by_a_far_route : sent_by (Start ∷ Packet 1 far_response ∷ []) (Packet 0 beyond)
    ≡ out 1 (node 0xBB) (hex (codes "FFFF001E0100000000300000000000CC4003000000100000000000AA" ++ codes "4003"))
    ∷ []
unfolding decode_pairs header_bytes address_bytes entry_bytes network_bytes service_bytes name_field packet_of header_at address_at rip_of entry_at sap_of items sap_entry_at name_of network_at
by_a_far_route = refl

-- from node AAh on network 10h to all networks
abbrev to_all : List ℕ
to_all = (hex (codes "FFFF003E001400000010FFFFFFFFFFFF0455000000100000000000AA" ++ codes "0455") ++ replicate 32 0)

-- it has crossed seven
abbrev crossed_seven : List ℕ
crossed_seven = (hex (codes "FFFF003E071400000010FFFFFFFFFFFF0455000000100000000000AA" ++ codes "04550000009900000098000000970000009600000095000000940000" ++ codes "009300000000"))

-- it has crossed network 20h
abbrev crossed_the_other : List ℕ
crossed_the_other = (hex (codes "FFFF003E011400000010FFFFFFFFFFFF0455000000100000000000AA" ++ codes "045500000020") ++ replicate 27 0 ++ hex (codes "00"))

-- network 10h stands in a place that doesn't count
abbrev not_counted : List ℕ
not_counted = (hex (codes "FFFF003E001400000010FFFFFFFFFFFF0455000000100000000000AA" ++ codes "045500000010") ++ replicate 27 0 ++ hex (codes "00"))

-- network 20h stands in two places that don't count
abbrev not_counted_there : List ℕ
not_counted_there = (hex (codes "FFFF003E001400000010FFFFFFFFFFFF0455000000100000000000AA" ++ codes "04550000002000000020") ++ replicate 24 0)

-- the arriving network is written in the next place, and the packet leaves for the other one
pub propagated : sent_by (Start ∷ []) (Packet 0 to_all)
    ≡ out 1 all_nodes (hex (codes "FFFF003E011400000020FFFFFFFFFFFF0455000000100000000000AA" ++ codes "045500000010") ++ replicate 27 0 ++ hex (codes "00"))
    ∷ []
unfolding decode_pairs header_bytes address_bytes entry_bytes network_bytes service_bytes name_field packet_of header_at address_at rip_of entry_at sap_of items sap_entry_at name_of network_at
propagated = refl

-- the eighth network takes the last place
pub in_the_last_place : sent_by (Start ∷ []) (Packet 0 crossed_seven)
    ≡ out 1 all_nodes (hex (codes "FFFF003E081400000020FFFFFFFFFFFF0455000000100000000000AA" ++ codes "04550000009900000098000000970000009600000095000000940000" ++ codes "009300000010"))
    ∷ []
unfolding decode_pairs header_bytes address_bytes entry_bytes network_bytes service_bytes name_field packet_of header_at address_at rip_of entry_at sap_of items sap_entry_at name_of network_at
in_the_last_place = refl

-- it never leaves for a network that it has crossed
pub never_back : sent_by (Start ∷ []) (Packet 0 crossed_the_other)
    ≡ []
unfolding decode_pairs header_bytes address_bytes entry_bytes network_bytes service_bytes name_field packet_of header_at address_at rip_of entry_at sap_of items sap_entry_at name_of network_at
never_back = refl

-- a place behind those that count says nothing
pub only_those_counted : sent_by (Start ∷ []) (Packet 0 not_counted)
    ≡ out 1 all_nodes (hex (codes "FFFF003E011400000020FFFFFFFFFFFF0455000000100000000000AA" ++ codes "045500000010") ++ replicate 27 0 ++ hex (codes "00"))
    ∷ []
unfolding decode_pairs header_bytes address_bytes entry_bytes network_bytes service_bytes name_field packet_of header_at address_at rip_of entry_at sap_of items sap_entry_at name_of network_at
only_those_counted = refl

-- so it leaves for a network that stands there alone
pub only_those_counted_there : sent_by (Start ∷ []) (Packet 0 not_counted_there)
    ≡ out 1 all_nodes (hex (codes "FFFF003E011400000020FFFFFFFFFFFF0455000000100000000000AA" ++ codes "04550000001000000020") ++ replicate 24 0)
    ∷ []
unfolding decode_pairs header_bytes address_bytes entry_bytes network_bytes service_bytes name_field packet_of header_at address_at rip_of entry_at sap_of items sap_entry_at name_of network_at
only_those_counted_there = refl

-- to all networks, with network 0 as the destination
abbrev to_all_of_here : List ℕ
to_all_of_here = hex (codes "FFFF003E001400000000FFFFFFFFFFFF0455000000100000000000AA" ++ codes "0455") ++ replicate 32 0

-- to all networks, with network 99h as the destination
abbrev to_all_from_afar : List ℕ
to_all_from_afar = hex (codes "FFFF003E001400000099FFFFFFFFFFFF0455000000100000000000AA" ++ codes "0455") ++ replicate 32 0

-- what is for all networks leaves for the others, also where it names network 0
pub propagated_from_network_0 : sent_by (Start ∷ []) (Packet 0 to_all_of_here)
    ≡ out 1 all_nodes (hex (codes "FFFF003E011400000020FFFFFFFFFFFF0455000000100000000000AA" ++ codes "045500000010") ++ replicate 28 0)
    ∷ []
unfolding decode_pairs header_bytes address_bytes entry_bytes network_bytes service_bytes name_field packet_of header_at address_at rip_of entry_at sap_of items sap_entry_at name_of network_at
propagated_from_network_0 = refl

-- or any other
pub propagated_whatever_it_names : sent_by (Start ∷ []) (Packet 0 to_all_from_afar)
    ≡ out 1 all_nodes (hex (codes "FFFF003E011400000020FFFFFFFFFFFF0455000000100000000000AA" ++ codes "045500000010") ++ replicate 28 0)
    ∷ []
unfolding decode_pairs header_bytes address_bytes entry_bytes network_bytes service_bytes name_field packet_of header_at address_at rip_of entry_at sap_of items sap_entry_at name_of network_at
propagated_whatever_it_names = refl

-- to node 2 on network 30h; the router is node 2 on network 20h
abbrev to_2_beyond : List ℕ
to_2_beyond = hex (codes "FFFF001E0000000000300000000000024003000000100000000000AA" ++ codes "4003")

-- to node 1 on network 20h; the router is node 1 on network 10h
abbrev to_1_over_there : List ℕ
to_1_over_there = hex (codes "FFFF001E0000000000200000000000014003000000100000000000AA" ++ codes "4003")

-- a node of another network that has the number of a port is no port of the router
pub a_namesake_beyond : sent_by heard_of_30 (Packet 0 to_2_beyond)
    ≡ out 1 (node 0xBB) (hex (codes "FFFF001E0100000000300000000000024003000000100000000000AA" ++ codes "4003"))
    ∷ []
unfolding decode_pairs header_bytes address_bytes entry_bytes network_bytes service_bytes name_field packet_of header_at address_at rip_of entry_at sap_of items sap_entry_at name_of network_at
a_namesake_beyond = refl

-- nor is one on the network of another port
pub a_namesake_on_a_direct_network : sent_by (Start ∷ []) (Packet 0 to_1_over_there)
    ≡ out 1 (node 0x01) (hex (codes "FFFF001E0100000000200000000000014003000000100000000000AA" ++ codes "4003"))
    ∷ []
unfolding decode_pairs header_bytes address_bytes entry_bytes network_bytes service_bytes name_field packet_of header_at address_at rip_of entry_at sap_of items sap_entry_at name_of network_at
a_namesake_on_a_direct_network = refl

-- to all nodes of network 20h
abbrev to_all_of_20 : List ℕ
to_all_of_20 = hex (codes "FFFF001E000000000020FFFFFFFFFFFF4003000000100000000000AA" ++ codes "4003")

-- to all nodes of network 30h
abbrev to_all_of_30 : List ℕ
to_all_of_30 = hex (codes "FFFF001E000000000030FFFFFFFFFFFF4003000000100000000000AA" ++ codes "4003")

-- a broadcast to another network is forwarded as any packet for it
pub a_broadcast_to_a_direct_network : sent_by (Start ∷ []) (Packet 0 to_all_of_20)
    ≡ out 1 all_nodes (hex (codes "FFFF001E010000000020FFFFFFFFFFFF4003000000100000000000AA" ++ codes "4003"))
    ∷ []
unfolding decode_pairs header_bytes address_bytes entry_bytes network_bytes service_bytes name_field packet_of header_at address_at rip_of entry_at sap_of items sap_entry_at name_of network_at
a_broadcast_to_a_direct_network = refl

-- beyond it to the neighbour alone
pub a_broadcast_by_a_route : sent_by heard_of_30 (Packet 0 to_all_of_30)
    ≡ out 1 (node 0xBB) (hex (codes "FFFF001E010000000030FFFFFFFFFFFF4003000000100000000000AA" ++ codes "4003"))
    ∷ []
unfolding decode_pairs header_bytes address_bytes entry_bytes network_bytes service_bytes name_field packet_of header_at address_at rip_of entry_at sap_of items sap_entry_at name_of network_at
a_broadcast_by_a_route = refl
