-- What is told in which order: routes by network, services by type and then name; and which of the nearest services is answered.
use Rattle.std.proofs.Common.{◌≡◌, ◌-◌, ℕ, List, [], ◌∷◌, ◌++◌, refl, codes, replicate}
use Rattle.hex.specs.Hex.{decode_pairs}
use Rattle.ipx_wire.specs.Address.{address_bytes, address_at}
use Rattle.ipx_wire.specs.Crossed.{network_bytes, network_at}
use Rattle.ipx_wire.specs.Header.{header_bytes, header_at}
use Rattle.ipx_wire.specs.Items.{items}
use Rattle.ipx_wire.specs.Name.{name_of, name_field}
use Rattle.ipx_wire.specs.Packet.{packet_of}
use Rattle.ipx_wire.specs.Rip.{rip_of, entry_at, entry_bytes}
use Rattle.ipx_wire.specs.Sap.{sap_of}
use Rattle.ipx_wire.specs.SapEntries.{sap_entry_at}
use Rattle.ipx_wire.specs.WriteServices.{service_bytes}
use Rattle.ipx_table.specs.Alive.{lifetime}
use Rattle.ipx_router.specs.History.{Start, Second, Packet}
use Rattle.ipx_router.proofs.examples.Words.{hex, node, sent_by, out, all_nodes, general_request}

-- services A of type 5 and B of type 4, which are in one order by type and in the other by name
abbrev crossed_orders : List ℕ
crossed_orders = hex (codes "FFFF00A0000400000020FFFFFFFFFFFF0452000000200000000000BB" ++ codes "04520002000541") ++ replicate 50 0 ++ hex (codes "3000000000000104510002000442") ++ replicate 50 0 ++ hex (codes "3000000000000104510002")

-- services B, AA and A of type 4
abbrev one_type : List ℕ
one_type = hex (codes "FFFF00E0000400000020FFFFFFFFFFFF0452000000200000000000BB" ++ codes "04520002000442") ++ replicate 50 0 ++ hex (codes "300000000000010451000200044141") ++ replicate 49 0 ++ hex (codes "3000000000000104510002000441") ++ replicate 50 0 ++ hex (codes "3000000000000104510002")

-- services A of types 5 and 4, equally near
abbrev one_name : List ℕ
one_name = hex (codes "FFFF00A0000400000020FFFFFFFFFFFF0452000000200000000000BB" ++ codes "04520002000541") ++ replicate 50 0 ++ hex (codes "3000000000000104510001000441") ++ replicate 50 0 ++ hex (codes "3000000000000104510001")

-- the same, type 4 first
abbrev other_way_round : List ℕ
other_way_round = hex (codes "FFFF00A0000400000020FFFFFFFFFFFF0452000000200000000000BB" ++ codes "04520002000441") ++ replicate 50 0 ++ hex (codes "3000000000000104510001000541") ++ replicate 50 0 ++ hex (codes "3000000000000104510001")

-- node AAh asks for all services
abbrev all_services : List ℕ
all_services = hex (codes "FFFF0022000400000010FFFFFFFFFFFF0452000000100000000000AA" ++ codes "40030001FFFF")

-- for the nearest of all
abbrev nearest : List ℕ
nearest = hex (codes "FFFF0022000400000010FFFFFFFFFFFF0452000000100000000000AA" ++ codes "40030003FFFF")

-- news of services is told by type before name
pub news_by_type : sent_by (Start ∷ []) (Packet 1 crossed_orders)
    ≡ out 0 all_nodes (hex (codes "FFFF00A0000400000010FFFFFFFFFFFF045200000010000000000001" ++ codes "04520002000442") ++ replicate 50 0 ++ hex (codes "3000000000000104510003000541") ++ replicate 50 0 ++ hex (codes "3000000000000104510003"))
    ∷ []
unfolding decode_pairs header_bytes address_bytes entry_bytes network_bytes service_bytes name_field packet_of header_at address_at rip_of entry_at sap_of items sap_entry_at name_of network_at
news_by_type = refl

-- so is an asker
pub answered_by_type : sent_by (Start ∷ Packet 1 crossed_orders ∷ []) (Packet 0 all_services)
    ≡ out 0 (node 0xAA) (hex (codes "FFFF00A00004000000100000000000AA400300000010000000000001" ++ codes "04520002000442") ++ replicate 50 0 ++ hex (codes "3000000000000104510003000541") ++ replicate 50 0 ++ hex (codes "3000000000000104510003"))
    ∷ []
unfolding decode_pairs header_bytes address_bytes entry_bytes network_bytes service_bytes name_field packet_of header_at address_at rip_of entry_at sap_of items sap_entry_at name_of network_at
answered_by_type = refl

-- services of one type are told by name, a beginning before what it begins
pub told_by_name : sent_by (Start ∷ []) (Packet 1 one_type)
    ≡ out 0 all_nodes (hex (codes "FFFF00E0000400000010FFFFFFFFFFFF045200000010000000000001" ++ codes "04520002000441") ++ replicate 50 0 ++ hex (codes "300000000000010451000300044141") ++ replicate 49 0 ++ hex (codes "3000000000000104510003000442") ++ replicate 50 0 ++ hex (codes "3000000000000104510003"))
    ∷ []
unfolding decode_pairs header_bytes address_bytes entry_bytes network_bytes service_bytes name_field packet_of header_at address_at rip_of entry_at sap_of items sap_entry_at name_of network_at
told_by_name = refl

-- and answered so
pub answered_by_name : sent_by (Start ∷ Packet 1 one_type ∷ []) (Packet 0 all_services)
    ≡ out 0 (node 0xAA) (hex (codes "FFFF00E00004000000100000000000AA400300000010000000000001" ++ codes "04520002000441") ++ replicate 50 0 ++ hex (codes "300000000000010451000300044141") ++ replicate 49 0 ++ hex (codes "3000000000000104510003000442") ++ replicate 50 0 ++ hex (codes "3000000000000104510003"))
    ∷ []
unfolding decode_pairs header_bytes address_bytes entry_bytes network_bytes service_bytes name_field packet_of header_at address_at rip_of entry_at sap_of items sap_entry_at name_of network_at
answered_by_name = refl

-- of services equally near the smaller name is answered, also where its type is greater
pub nearest_name_before_type : sent_by (Start ∷ Packet 1 crossed_orders ∷ []) (Packet 0 nearest)
    ≡ out 0 (node 0xAA) (hex (codes "FFFF00600004000000100000000000AA400300000010000000000001" ++ codes "04520004000541") ++ replicate 50 0 ++ hex (codes "3000000000000104510003"))
    ∷ []
unfolding decode_pairs header_bytes address_bytes entry_bytes network_bytes service_bytes name_field packet_of header_at address_at rip_of entry_at sap_of items sap_entry_at name_of network_at
nearest_name_before_type = refl

-- of services equally near with one name the smaller type is answered
pub nearest_of_one_name : sent_by (Start ∷ Packet 1 one_name ∷ []) (Packet 0 nearest)
    ≡ out 0 (node 0xAA) (hex (codes "FFFF00600004000000100000000000AA400300000010000000000001" ++ codes "04520004000441") ++ replicate 50 0 ++ hex (codes "3000000000000104510002"))
    ∷ []
unfolding decode_pairs header_bytes address_bytes entry_bytes network_bytes service_bytes name_field packet_of header_at address_at rip_of entry_at sap_of items sap_entry_at name_of network_at
nearest_of_one_name = refl

-- whichever was told first
pub nearest_whatever_came_first : sent_by (Start ∷ Packet 1 other_way_round ∷ []) (Packet 0 nearest)
    ≡ out 0 (node 0xAA) (hex (codes "FFFF00600004000000100000000000AA400300000010000000000001" ++ codes "04520004000441") ++ replicate 50 0 ++ hex (codes "3000000000000104510002"))
    ∷ []
unfolding decode_pairs header_bytes address_bytes entry_bytes network_bytes service_bytes name_field packet_of header_at address_at rip_of entry_at sap_of items sap_entry_at name_of network_at
nearest_whatever_came_first = refl

-- service B of type 4
abbrev early : List ℕ
early = hex (codes "FFFF0060000400000020FFFFFFFFFFFF0452000000200000000000BB" ++ codes "04520002000442") ++ replicate 50 0 ++ hex (codes "3000000000000104510002")

-- services A and C of type 4, A of type 5 and D of type 3
abbrev late : List ℕ
late = hex (codes "FFFF0120000400000020FFFFFFFFFFFF0452000000200000000000BB" ++ codes "04520002000441") ++ replicate 50 0 ++ hex (codes "3000000000000104510002000443") ++ replicate 50 0 ++ hex (codes "3000000000000104510002000541") ++ replicate 50 0 ++ hex (codes "3000000000000104510002000344") ++ replicate 50 0 ++ hex (codes "3000000000000104510002")

-- a service that ends at a period stands as down in its place by type and name
pub a_service_ends_in_its_place : sent_by (Start ∷ Packet 1 early ∷ replicate 100 Second ++ Packet 1 late ∷ replicate (lifetime - 101) Second) Second
    ≡ out 0 all_nodes (hex (codes "FFFF0028000100000010FFFFFFFFFFFF045300000010000000000001" ++ codes "045300020000002000010002"))
    ∷ out 0 all_nodes (hex (codes "FFFF0160000400000010FFFFFFFFFFFF045200000010000000000001" ++ codes "04520002000344") ++ replicate 50 0 ++ hex (codes "3000000000000104510003000441") ++ replicate 50 0 ++ hex (codes "3000000000000104510003000442") ++ replicate 50 0 ++ hex (codes "3000000000000104510010000443") ++ replicate 50 0 ++ hex (codes "3000000000000104510003000541") ++ replicate 50 0 ++ hex (codes "3000000000000104510003"))
    ∷ out 1 all_nodes (hex (codes "FFFF0028000100000020FFFFFFFFFFFF045300000020000000000002" ++ codes "045300020000001000010002"))
    ∷ []
unfolding decode_pairs header_bytes address_bytes entry_bytes network_bytes service_bytes name_field packet_of header_at address_at rip_of entry_at sap_of items sap_entry_at name_of network_at
a_service_ends_in_its_place = refl

-- network 15h
abbrev early_routes : List ℕ
early_routes = hex (codes "FFFF0028000100000020FFFFFFFFFFFF0453000000200000000000BB" ++ codes "045300020000001500010002")

-- networks 16h and 14h
abbrev late_routes : List ℕ
late_routes = hex (codes "FFFF0030000100000020FFFFFFFFFFFF0453000000200000000000BB" ++ codes "0453000200000016000100020000001400010002")

-- a route that ends at a period stands as dead in its place by network
pub a_route_ends_in_its_place : sent_by (Start ∷ Packet 1 early_routes ∷ replicate 100 Second ++ Packet 1 late_routes ∷ replicate (lifetime - 101) Second) Second
    ≡ out 0 all_nodes (hex (codes "FFFF0040000100000010FFFFFFFFFFFF045300000010000000000001" ++ codes "045300020000001400020003000000150010FFFF0000001600020003" ++ codes "0000002000010002"))
    ∷ out 1 all_nodes (hex (codes "FFFF0028000100000020FFFFFFFFFFFF045300000020000000000002" ++ codes "045300020000001000010002"))
    ∷ []
unfolding decode_pairs header_bytes address_bytes entry_bytes network_bytes service_bytes name_field packet_of header_at address_at rip_of entry_at sap_of items sap_entry_at name_of network_at
a_route_ends_in_its_place = refl

-- a network that was heard of stands before that of a port if its number is smaller
pub routes_before_a_port : sent_by (Start ∷ Packet 1 late_routes ∷ []) (Packet 0 general_request)
    ≡ out 0 (node 0xAA) (hex (codes "FFFF00380001000000100000000000AA045300000010000000000001" ++ codes "04530002000000140002000300000016000200030000002000010002"))
    ∷ []
unfolding decode_pairs header_bytes address_bytes entry_bytes network_bytes service_bytes name_field packet_of header_at address_at rip_of entry_at sap_of items sap_entry_at name_of network_at
routes_before_a_port = refl
