-- A port comes up: it begins as at a start, with what is known by now, and the other ports hear of its network.
use Rattle.std.proofs.Common.{◌≡◌, [], ◌∷◌, ◌++◌, refl, codes, replicate}
use Rattle.hex.specs.Hex.{decode_pairs}
use Rattle.ipx_wire.specs.Address.{address_bytes, address_at}
use Rattle.ipx_wire.specs.Crossed.{network_bytes, network_at}
use Rattle.ipx_wire.specs.Header.{header_bytes, header_at}
use Rattle.ipx_wire.specs.Items.{items}
use Rattle.ipx_wire.specs.Name.{name_of, name_field}
use Rattle.ipx_wire.specs.Packet.{packet_of}
use Rattle.ipx_wire.specs.Rip.{rip_of, entry_at, entry_bytes}
use Rattle.ipx_wire.specs.Sap.{sap_of}
use Rattle.ipx_wire.specs.SapEntries.{sap_entry_at}
use Rattle.ipx_wire.specs.WriteServices.{service_bytes}
use Rattle.ipx_router.specs.Facts.{routes_held}
use Rattle.ipx_router.specs.History.{Start, Stop, Packet, PortDown, PortUp}
use Rattle.ipx_router.specs.Sends.{sends}
use Rattle.ipx_router.proofs.examples.Words.{hex, node, port_on, sent_by, sent_by_three, out, all_nodes, general_request, response, heard_of_30, over_the_third, service_b, two_ports, held_route}

-- the other port tells its network; the port itself tells that of the other, and asks for all routes and all services
pub it_comes_up : sent_by (heard_of_30 ++ PortDown 1 ∷ []) (PortUp 1)
    ≡ out 0 all_nodes (hex (codes "FFFF0028000100000010FFFFFFFFFFFF0453000000100000000000010453" ++ codes "00020000002000010002"))
    ∷ out 1 all_nodes (hex (codes "FFFF0028000100000020FFFFFFFFFFFF0453000000200000000000020453" ++ codes "00020000001000010002"))
    ∷ out 1 all_nodes (hex (codes "FFFF0028000100000020FFFFFFFFFFFF0453000000200000000000020453" ++ codes "0001FFFFFFFFFFFFFFFF"))
    ∷ out 1 all_nodes (hex (codes "FFFF0022000400000020FFFFFFFFFFFF0452000000200000000000020452" ++ codes "0001FFFF"))
    ∷ []
unfolding decode_pairs header_bytes address_bytes entry_bytes network_bytes service_bytes name_field packet_of header_at address_at rip_of entry_at sap_of items sap_entry_at name_of network_at
it_comes_up = refl

-- it tells all routes before it asks for them, then all services before it asks for those
pub with_routes_and_services : sent_by_three (Start ∷ PortDown 1 ∷ Packet 2 over_the_third ∷ Packet 2 service_b ∷ []) (PortUp 1)
    ≡ out 0 all_nodes (hex (codes "FFFF0028000100000010FFFFFFFFFFFF0453000000100000000000010453" ++ codes "00020000002000010002"))
    ∷ out 1 all_nodes (hex (codes "FFFF0038000100000020FFFFFFFFFFFF0453000000200000000000020453" ++ codes "0002000000100001000200000040000100020000005000020003"))
    ∷ out 1 all_nodes (hex (codes "FFFF0028000100000020FFFFFFFFFFFF0453000000200000000000020453" ++ codes "0001FFFFFFFFFFFFFFFF"))
    ∷ out 1 all_nodes (hex (codes "FFFF0060000400000020FFFFFFFFFFFF0452000000200000000000020452" ++ codes "0002000442") ++ replicate 50 0 ++ hex (codes "3000000000000104510003"))
    ∷ out 1 all_nodes (hex (codes "FFFF0022000400000020FFFFFFFFFFFF0452000000200000000000020452" ++ codes "0001FFFF"))
    ∷ out 2 all_nodes (hex (codes "FFFF0028000100000040FFFFFFFFFFFF0453000000400000000000040453" ++ codes "00020000002000010002"))
    ∷ []
unfolding decode_pairs header_bytes address_bytes entry_bytes network_bytes service_bytes name_field packet_of header_at address_at rip_of entry_at sap_of items sap_entry_at name_of network_at
with_routes_and_services = refl

-- a port that stays down hears nothing, and isn't told
pub another_stays_down : sent_by_three (Start ∷ PortDown 0 ∷ PortDown 1 ∷ []) (PortUp 1)
    ≡ out 1 all_nodes (hex (codes "FFFF0028000100000020FFFFFFFFFFFF0453000000200000000000020453" ++ codes "00020000004000010002"))
    ∷ out 1 all_nodes (hex (codes "FFFF0028000100000020FFFFFFFFFFFF0453000000200000000000020453" ++ codes "0001FFFFFFFFFFFFFFFF"))
    ∷ out 1 all_nodes (hex (codes "FFFF0022000400000020FFFFFFFFFFFF0452000000200000000000020452" ++ codes "0001FFFF"))
    ∷ out 2 all_nodes (hex (codes "FFFF0028000100000040FFFFFFFFFFFF0453000000400000000000040453" ++ codes "00020000002000010002"))
    ∷ []
unfolding decode_pairs header_bytes address_bytes entry_bytes network_bytes service_bytes name_field packet_of header_at address_at rip_of entry_at sap_of items sap_entry_at name_of network_at
another_stays_down = refl

-- the only port has nothing to tell, and asks
pub the_only_port : sends (port_on 0x10 1 ∷ []) 256 128 (Start ∷ PortDown 0 ∷ []) (PortUp 0)
    ≡ out 0 all_nodes (hex (codes "FFFF0028000100000010FFFFFFFFFFFF0453000000100000000000010453" ++ codes "0001FFFFFFFFFFFFFFFF"))
    ∷ out 0 all_nodes (hex (codes "FFFF0022000400000010FFFFFFFFFFFF0452000000100000000000010452" ++ codes "0001FFFF"))
    ∷ []
unfolding decode_pairs header_bytes address_bytes entry_bytes network_bytes service_bytes name_field packet_of header_at address_at rip_of entry_at sap_of items sap_entry_at name_of network_at
the_only_port = refl

-- what came by it before is forgotten
pub it_has_forgotten : sent_by (heard_of_30 ++ PortDown 1 ∷ PortUp 1 ∷ []) (Packet 0 general_request)
    ≡ out 0 (node 0xAA) (hex (codes "FFFF00280001000000100000000000AA0453000000100000000000010453" ++ codes "00020000002000010002"))
    ∷ []
unfolding decode_pairs header_bytes address_bytes entry_bytes network_bytes service_bytes name_field packet_of header_at address_at rip_of entry_at sap_of items sap_entry_at name_of network_at
it_has_forgotten = refl

-- and is told at once when it is heard again
pub it_hears_again : sent_by (heard_of_30 ++ PortDown 1 ∷ PortUp 1 ∷ []) (Packet 1 response)
    ≡ out 0 all_nodes (hex (codes "FFFF0028000100000010FFFFFFFFFFFF0453000000100000000000010453" ++ codes "00020000003000020003"))
    ∷ []
unfolding decode_pairs header_bytes address_bytes entry_bytes network_bytes service_bytes name_field packet_of header_at address_at rip_of entry_at sap_of items sap_entry_at name_of network_at
it_hears_again = refl

-- a port that is up doesn't come up
pub up_already : sent_by heard_of_30 (PortUp 1) ≡ []
unfolding decode_pairs header_bytes address_bytes entry_bytes network_bytes service_bytes name_field packet_of header_at address_at rip_of entry_at sap_of items sap_entry_at name_of network_at
up_already = refl

-- so it keeps what came by it
pub up_already_keeps : routes_held two_ports 256 (heard_of_30 ++ PortUp 1 ∷ []) ≡ held_route 0x30 1 2 1 (node 0xBB) 0 ∷ []
unfolding decode_pairs header_bytes address_bytes entry_bytes network_bytes service_bytes name_field packet_of header_at address_at rip_of entry_at sap_of items sap_entry_at name_of network_at
up_already_keeps = refl

-- nor does one of a stopped router
pub up_of_a_stopped_router : sent_by (heard_of_30 ++ PortDown 1 ∷ Stop ∷ []) (PortUp 1) ≡ []
unfolding decode_pairs header_bytes address_bytes entry_bytes network_bytes service_bytes name_field packet_of header_at address_at rip_of entry_at sap_of items sap_entry_at name_of network_at
up_of_a_stopped_router = refl

-- a router that is started again begins on all its ports
pub a_start_brings_all_up : sent_by (Start ∷ PortDown 1 ∷ Stop ∷ []) Start
    ≡ out 0 all_nodes (hex (codes "FFFF0028000100000010FFFFFFFFFFFF0453000000100000000000010453" ++ codes "00020000002000010002"))
    ∷ out 0 all_nodes (hex (codes "FFFF0028000100000010FFFFFFFFFFFF0453000000100000000000010453" ++ codes "0001FFFFFFFFFFFFFFFF"))
    ∷ out 0 all_nodes (hex (codes "FFFF0022000400000010FFFFFFFFFFFF0452000000100000000000010452" ++ codes "0001FFFF"))
    ∷ out 1 all_nodes (hex (codes "FFFF0028000100000020FFFFFFFFFFFF0453000000200000000000020453" ++ codes "00020000001000010002"))
    ∷ out 1 all_nodes (hex (codes "FFFF0028000100000020FFFFFFFFFFFF0453000000200000000000020453" ++ codes "0001FFFFFFFFFFFFFFFF"))
    ∷ out 1 all_nodes (hex (codes "FFFF0022000400000020FFFFFFFFFFFF0452000000200000000000020452" ++ codes "0001FFFF"))
    ∷ []
unfolding decode_pairs header_bytes address_bytes entry_bytes network_bytes service_bytes name_field packet_of header_at address_at rip_of entry_at sap_of items sap_entry_at name_of network_at
a_start_brings_all_up = refl

-- also on one that was to go down while it was stopped
pub down_while_stopped : sent_by (Start ∷ Stop ∷ PortDown 1 ∷ []) Start
    ≡ out 0 all_nodes (hex (codes "FFFF0028000100000010FFFFFFFFFFFF0453000000100000000000010453" ++ codes "00020000002000010002"))
    ∷ out 0 all_nodes (hex (codes "FFFF0028000100000010FFFFFFFFFFFF0453000000100000000000010453" ++ codes "0001FFFFFFFFFFFFFFFF"))
    ∷ out 0 all_nodes (hex (codes "FFFF0022000400000010FFFFFFFFFFFF0452000000100000000000010452" ++ codes "0001FFFF"))
    ∷ out 1 all_nodes (hex (codes "FFFF0028000100000020FFFFFFFFFFFF0453000000200000000000020453" ++ codes "00020000001000010002"))
    ∷ out 1 all_nodes (hex (codes "FFFF0028000100000020FFFFFFFFFFFF0453000000200000000000020453" ++ codes "0001FFFFFFFFFFFFFFFF"))
    ∷ out 1 all_nodes (hex (codes "FFFF0022000400000020FFFFFFFFFFFF0452000000200000000000020452" ++ codes "0001FFFF"))
    ∷ []
unfolding decode_pairs header_bytes address_bytes entry_bytes network_bytes service_bytes name_field packet_of header_at address_at rip_of entry_at sap_of items sap_entry_at name_of network_at
down_while_stopped = refl

-- a start of a running router leaves the port down
pub a_start_while_it_runs : sent_by (Start ∷ PortDown 1 ∷ Start ∷ []) (Packet 0 general_request) ≡ []
unfolding decode_pairs header_bytes address_bytes entry_bytes network_bytes service_bytes name_field packet_of header_at address_at rip_of entry_at sap_of items sap_entry_at name_of network_at
a_start_while_it_runs = refl
