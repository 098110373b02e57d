-- What makes no difference: the packet type of a request, the socket that a response comes from, type 20 to one node, where
-- in a request all routes are named, a start of a router that runs, and a neighbour with the node number of another port.
use Rattle.std.proofs.Common.{◌≡◌, [], ◌∷◌, ◌++◌, refl, codes, replicate}
use Rattle.hex.specs.Hex.{decode_pairs}
use Rattle.ipx_wire.specs.Address.{address_bytes, address_at}
use Rattle.ipx_wire.specs.Crossed.{network_bytes, network_at}
use Rattle.ipx_wire.specs.Header.{header_bytes, header_at}
use Rattle.ipx_wire.specs.Items.{items}
use Rattle.ipx_wire.specs.Name.{name_of, name_field}
use Rattle.ipx_wire.specs.Packet.{packet_of}
use Rattle.ipx_wire.specs.Rip.{rip_of, entry_at, entry_bytes}
use Rattle.ipx_wire.specs.Sap.{sap_of}
use Rattle.ipx_wire.specs.SapEntries.{sap_entry_at}
use Rattle.ipx_wire.specs.WriteServices.{service_bytes}
use Rattle.ipx_router.specs.History.{Start, Second, Packet}
use Rattle.ipx_router.proofs.examples.Words.{hex, node, sent_by, out, all_nodes, heard_of_30}

-- a request of packet type 0 is answered
pub a_request_of_another_type : sent_by (Start ∷ []) (Packet 0 (hex (codes "FFFF0028000000000010FFFFFFFFFFFF0453000000100000000000" ++ codes "AA04530001FFFFFFFFFFFFFFFF")))
    ≡ out 0 (node 0xAA) (hex (codes "FFFF00280001000000100000000000AA0453000000100000000000" ++ codes "01045300020000002000010002"))
    ∷ []
unfolding decode_pairs header_bytes address_bytes entry_bytes network_bytes service_bytes name_field packet_of header_at address_at rip_of entry_at sap_of items sap_entry_at name_of network_at
a_request_of_another_type = refl

-- a response from socket 4003h is learned, and told on the other port
pub a_response_from_another_socket : sent_by (Start ∷ []) (Packet 1 (hex (codes "FFFF0028000100000020FFFFFFFFFFFF0453000000200000000000" ++ codes "BB400300020000003000010002")))
    ≡ out 0 all_nodes (hex (codes "FFFF0028000100000010FFFFFFFFFFFF0453000000100000000000" ++ codes "01045300020000003000020003"))
    ∷ []
unfolding decode_pairs header_bytes address_bytes entry_bytes network_bytes service_bytes name_field packet_of header_at address_at rip_of entry_at sap_of items sap_entry_at name_of network_at
a_response_from_another_socket = refl

-- a packet of type 20 to one node goes its way like any other
pub type_20_to_one_node : sent_by (Start ∷ []) (Packet 0 (hex (codes "FFFF001E0014000000200000000000CC4003000000100000000000" ++ codes "AA4003")))
    ≡ out 1 (node 0xCC) (hex (codes "FFFF001E0114000000200000000000CC4003000000100000000000" ++ codes "AA4003"))
    ∷ []
unfolding decode_pairs header_bytes address_bytes entry_bytes network_bytes service_bytes name_field packet_of header_at address_at rip_of entry_at sap_of items sap_entry_at name_of network_at
type_20_to_one_node = refl

-- a request that names all routes in its last entry is for all
pub all_routes_asked_for_last : sent_by heard_of_30 (Packet 0 (hex (codes "FFFF0030000100000010FFFFFFFFFFFF0453000000100000000000" ++ codes "AA0453000100000030FFFFFFFFFFFFFFFFFFFFFFFF")))
    ≡ out 0 (node 0xAA) (hex (codes "FFFF00300001000000100000000000AA0453000000100000000000" ++ codes "010453000200000020000100020000003000020003"))
    ∷ []
unfolding decode_pairs header_bytes address_bytes entry_bytes network_bytes service_bytes name_field packet_of header_at address_at rip_of entry_at sap_of items sap_entry_at name_of network_at
all_routes_asked_for_last = refl

-- a start of a running router forgets nothing
pub a_start_forgets_nothing : sent_by (heard_of_30 ++ Start ∷ []) (Packet 0 (hex (codes "FFFF0028000100000010FFFFFFFFFFFF0453000000100000000000" ++ codes "AA04530001FFFFFFFFFFFFFFFF")))
    ≡ out 0 (node 0xAA) (hex (codes "FFFF00300001000000100000000000AA0453000000100000000000" ++ codes "010453000200000020000100020000003000020003"))
    ∷ []
unfolding decode_pairs header_bytes address_bytes entry_bytes network_bytes service_bytes name_field packet_of header_at address_at rip_of entry_at sap_of items sap_entry_at name_of network_at
a_start_forgets_nothing = refl

-- nor does it begin the minute anew
pub a_start_leaves_the_minute : sent_by (Start ∷ replicate 30 Second ++ Start ∷ replicate 29 Second) Second
    ≡ out 0 all_nodes (hex (codes "FFFF0028000100000010FFFFFFFFFFFF0453000000100000000000" ++ codes "01045300020000002000010002"))
    ∷ out 1 all_nodes (hex (codes "FFFF0028000100000020FFFFFFFFFFFF0453000000200000000000" ++ codes "02045300020000001000010002"))
    ∷ []
unfolding decode_pairs header_bytes address_bytes entry_bytes network_bytes service_bytes name_field packet_of header_at address_at rip_of entry_at sap_of items sap_entry_at name_of network_at
a_start_leaves_the_minute = refl

-- a node of network 10h that has the number of the port on network 20h is a neighbour like any other
pub a_namesake_of_the_other_port : sent_by (Start ∷ []) (Packet 0 (hex (codes "FFFF0028000100000010FFFFFFFFFFFF0453000000100000000000" ++ codes "0204530001FFFFFFFFFFFFFFFF")))
    ≡ out 0 (node 2) (hex (codes "FFFF0028000100000010000000000002045300000010000000000001" ++ codes "045300020000002000010002"))
    ∷ []
unfolding decode_pairs header_bytes address_bytes entry_bytes network_bytes service_bytes name_field packet_of header_at address_at rip_of entry_at sap_of items sap_entry_at name_of network_at
a_namesake_of_the_other_port = refl
