-- A port goes down: what came by it ends, and is told as dead on the ports that are up, with the port's own network.
use Rattle.std.proofs.Common.{◌≡◌, ℕ, List, [], ◌∷◌, ◌++◌, refl, codes, replicate}
use Rattle.hex.specs.Hex.{decode_pairs}
use Rattle.ipx_wire.specs.Address.{address_bytes, address_at}
use Rattle.ipx_wire.specs.Crossed.{network_bytes, network_at}
use Rattle.ipx_wire.specs.Header.{header_bytes, header_at}
use Rattle.ipx_wire.specs.Items.{items}
use Rattle.ipx_wire.specs.Name.{name_of, name_field}
use Rattle.ipx_wire.specs.Packet.{packet_of}
use Rattle.ipx_wire.specs.Rip.{rip_of, entry_at, entry_bytes}
use Rattle.ipx_wire.specs.Sap.{sap_of}
use Rattle.ipx_wire.specs.SapEntries.{sap_entry_at}
use Rattle.ipx_wire.specs.WriteServices.{service_bytes}
use Rattle.ipx_router.specs.Facts.{routes_held}
use Rattle.ipx_router.specs.History.{History, Start, Stop, Packet, PortDown}
use Rattle.ipx_router.specs.Sends.{sends}
use Rattle.ipx_router.proofs.examples.Words.{hex, node, port_on, two_ports, three_ports, sent_by, sent_by_three, out, all_nodes, general_request, heard_of_30, held_route, over_the_third, service_b}

-- node BBh on network 20h tells networks 15h and 30h
abbrev around_20 : List ℕ
around_20 = hex (codes "FFFF0030000100000020FFFFFFFFFFFF0453000000200000000000BB0453" ++ codes "000200000015000100020000003000010002")

-- node BBh on network 20h tells service A of type 4
abbrev service_a : List ℕ
service_a = hex (codes "FFFF0060000400000020FFFFFFFFFFFF0452000000200000000000BB0452" ++ codes "0002000441") ++ replicate 50 0 ++ hex (codes "3000000000000104510002")

-- node AAh on network 10h tells a better way to network 30h
abbrev another_way : List ℕ
another_way = hex (codes "FFFF0028000100000010FFFFFFFFFFFF0453000000100000000000AA0453" ++ codes "00020000003000010001")

-- node AAh on network 10h asks for all services
abbrev all_services : List ℕ
all_services = hex (codes "FFFF0022000400000010FFFFFFFFFFFF0452000000100000000000AA4003" ++ codes "0001FFFF")

-- node DDh on network 40h asks for all routes
abbrev asked_on_40 : List ℕ
asked_on_40 = hex (codes "FFFF0028000100000040FFFFFFFFFFFF0453000000400000000000DD0453" ++ codes "0001FFFFFFFFFFFFFFFF")

-- routes and services are held by port 1 and by port 2
abbrev by_both : History
by_both = Start ∷ Packet 1 around_20 ∷ Packet 2 over_the_third ∷ Packet 1 service_a ∷ Packet 2 service_b ∷ []

-- the port's network is dead, and what lay behind it
pub what_lay_behind_is_dead : sent_by heard_of_30 (PortDown 1)
    ≡ out 0 all_nodes (hex (codes "FFFF0030000100000010FFFFFFFFFFFF0453000000100000000000010453" ++ codes "0002000000200010FFFF000000300010FFFF"))
    ∷ []
unfolding decode_pairs header_bytes address_bytes entry_bytes network_bytes service_bytes name_field packet_of header_at address_at rip_of entry_at sap_of items sap_entry_at name_of network_at
what_lay_behind_is_dead = refl

-- nothing is held then
pub nothing_is_held : routes_held two_ports 256 (heard_of_30 ++ PortDown 1 ∷ []) ≡ []
unfolding decode_pairs header_bytes address_bytes entry_bytes network_bytes service_bytes name_field packet_of header_at address_at rip_of entry_at sap_of items sap_entry_at name_of network_at
nothing_is_held = refl

-- every other port hears so, the port's network in its place by number, and of the services; not of what came by another port
pub told_on_the_others : sent_by_three by_both (PortDown 1)
    ≡ out 0 all_nodes (hex (codes "FFFF0038000100000010FFFFFFFFFFFF0453000000100000000000010453" ++ codes "0002000000150010FFFF000000200010FFFF000000300010FFFF"))
    ∷ out 0 all_nodes (hex (codes "FFFF0060000400000010FFFFFFFFFFFF0452000000100000000000010452" ++ codes "0002000441") ++ replicate 50 0 ++ hex (codes "3000000000000104510010"))
    ∷ out 2 all_nodes (hex (codes "FFFF0038000100000040FFFFFFFFFFFF0453000000400000000000040453" ++ codes "0002000000150010FFFF000000200010FFFF000000300010FFFF"))
    ∷ out 2 all_nodes (hex (codes "FFFF0060000400000040FFFFFFFFFFFF0452000000400000000000040452" ++ codes "0002000441") ++ replicate 50 0 ++ hex (codes "3000000000000104510010"))
    ∷ []
unfolding decode_pairs header_bytes address_bytes entry_bytes network_bytes service_bytes name_field packet_of header_at address_at rip_of entry_at sap_of items sap_entry_at name_of network_at
told_on_the_others = refl

-- the route that came by another port stays
pub the_other_route_stays : routes_held three_ports 256 (by_both ++ PortDown 1 ∷ []) ≡ held_route 0x50 1 2 2 (node 0xDD) 0 ∷ []
unfolding decode_pairs header_bytes address_bytes entry_bytes network_bytes service_bytes name_field packet_of header_at address_at rip_of entry_at sap_of items sap_entry_at name_of network_at
the_other_route_stays = refl

-- an asker hears of that one, and of the ports that are up
pub what_is_left : sent_by_three (by_both ++ PortDown 1 ∷ []) (Packet 0 general_request)
    ≡ out 0 (node 0xAA) (hex (codes "FFFF00300001000000100000000000AA0453000000100000000000010453" ++ codes "000200000040000100020000005000020003"))
    ∷ []
unfolding decode_pairs header_bytes address_bytes entry_bytes network_bytes service_bytes name_field packet_of header_at address_at rip_of entry_at sap_of items sap_entry_at name_of network_at
what_is_left = refl

-- so with services
pub the_other_service_stays : sent_by_three (by_both ++ PortDown 1 ∷ []) (Packet 0 all_services)
    ≡ out 0 (node 0xAA) (hex (codes "FFFF00600004000000100000000000AA4003000000100000000000010452" ++ codes "0002000442") ++ replicate 50 0 ++ hex (codes "3000000000000104510003"))
    ∷ []
unfolding decode_pairs header_bytes address_bytes entry_bytes network_bytes service_bytes name_field packet_of header_at address_at rip_of entry_at sap_of items sap_entry_at name_of network_at
the_other_service_stays = refl

-- the neighbour by which it came hears of the other port alone
pub what_is_left_for_another : sent_by_three (by_both ++ PortDown 1 ∷ []) (Packet 2 asked_on_40)
    ≡ out 2 (node 0xDD) (hex (codes "FFFF00280001000000400000000000DD0453000000400000000000040453" ++ codes "00020000001000010002"))
    ∷ []
unfolding decode_pairs header_bytes address_bytes entry_bytes network_bytes service_bytes name_field packet_of header_at address_at rip_of entry_at sap_of items sap_entry_at name_of network_at
what_is_left_for_another = refl

-- a route that another port took over stays
pub taken_over_before : routes_held two_ports 256 (heard_of_30 ++ Packet 0 another_way ∷ PortDown 1 ∷ []) ≡ held_route 0x30 1 1 0 (node 0xAA) 0 ∷ []
unfolding decode_pairs header_bytes address_bytes entry_bytes network_bytes service_bytes name_field packet_of header_at address_at rip_of entry_at sap_of items sap_entry_at name_of network_at
taken_over_before = refl

-- then the port's network alone is dead
pub its_network_alone : sent_by (heard_of_30 ++ Packet 0 another_way ∷ []) (PortDown 1)
    ≡ out 0 all_nodes (hex (codes "FFFF0028000100000010FFFFFFFFFFFF0453000000100000000000010453" ++ codes "0002000000200010FFFF"))
    ∷ []
unfolding decode_pairs header_bytes address_bytes entry_bytes network_bytes service_bytes name_field packet_of header_at address_at rip_of entry_at sap_of items sap_entry_at name_of network_at
its_network_alone = refl

-- what ended can be learned anew by another port, and is told on those that are up
pub learned_by_another_port : sent_by_three (heard_of_30 ++ PortDown 1 ∷ []) (Packet 0 another_way)
    ≡ out 2 all_nodes (hex (codes "FFFF0028000100000040FFFFFFFFFFFF0453000000400000000000040453" ++ codes "00020000003000020002"))
    ∷ []
unfolding decode_pairs header_bytes address_bytes entry_bytes network_bytes service_bytes name_field packet_of header_at address_at rip_of entry_at sap_of items sap_entry_at name_of network_at
learned_by_another_port = refl

-- a port that is down doesn't go down again
pub down_already : sent_by (heard_of_30 ++ PortDown 1 ∷ []) (PortDown 1) ≡ []
unfolding decode_pairs header_bytes address_bytes entry_bytes network_bytes service_bytes name_field packet_of header_at address_at rip_of entry_at sap_of items sap_entry_at name_of network_at
down_already = refl

-- where no other port is up nobody hears of it
pub the_last_port : sent_by (heard_of_30 ++ PortDown 0 ∷ []) (PortDown 1) ≡ []
unfolding decode_pairs header_bytes address_bytes entry_bytes network_bytes service_bytes name_field packet_of header_at address_at rip_of entry_at sap_of items sap_entry_at name_of network_at
the_last_port = refl

-- nor where the router has no other
pub the_only_port : sends (port_on 0x10 1 ∷ []) 256 128 (Start ∷ []) (PortDown 0) ≡ []
unfolding decode_pairs header_bytes address_bytes entry_bytes network_bytes service_bytes name_field packet_of header_at address_at rip_of entry_at sap_of items sap_entry_at name_of network_at
the_only_port = refl

-- a stopped router says nothing
pub down_of_a_stopped_router : sent_by (heard_of_30 ++ Stop ∷ []) (PortDown 1) ≡ []
unfolding decode_pairs header_bytes address_bytes entry_bytes network_bytes service_bytes name_field packet_of header_at address_at rip_of entry_at sap_of items sap_entry_at name_of network_at
down_of_a_stopped_router = refl
