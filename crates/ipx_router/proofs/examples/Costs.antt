-- Ports of unequal costs: what is told costs as much more as the port on which it is told, and a network of the router as much as its own port.
use Rattle.std.proofs.Common.{◌≡◌, ◌-◌, ℕ, List, [], ◌∷◌, ◌++◌, refl, codes, replicate}
use Rattle.hex.specs.Hex.{decode_pairs}
use Rattle.ipx_wire.specs.Address.{address_bytes, address_at}
use Rattle.ipx_wire.specs.Crossed.{network_bytes, network_at}
use Rattle.ipx_wire.specs.Header.{header_bytes, header_at}
use Rattle.ipx_wire.specs.Items.{items}
use Rattle.ipx_wire.specs.Name.{name_of, name_field}
use Rattle.ipx_wire.specs.Packet.{packet_of}
use Rattle.ipx_wire.specs.Rip.{rip_of, entry_at, entry_bytes}
use Rattle.ipx_wire.specs.Sap.{sap_of}
use Rattle.ipx_wire.specs.SapEntries.{sap_entry_at}
use Rattle.ipx_wire.specs.WriteServices.{service_bytes}
use Rattle.ipx_router.specs.History.{Event, History, Start, Second, Packet, PortDown, PortUp}
use Rattle.ipx_router.specs.Numbers.{period}
use Rattle.ipx_router.proofs.examples.Words.{hex, node, port_on, out, all_nodes, general_request, response}
use Rattle.ipx_router.specs.Port.{Port}
use Rattle.ipx_router.specs.Relays.{Sent}
use Rattle.ipx_router.specs.Sends.{sends}

-- node 1 on network 10h at 3 ticks, node 2 on network 20h at 7 ticks, node 4 on network 40h at 1 tick
abbrev three_costs : List Port
three_costs = record (port_on 0x10 1) { cost = 3 } ∷ record (port_on 0x20 2) { cost = 7 } ∷ port_on 0x40 4 ∷ []

-- what that router sends
abbrev sent_at : History → Event → List Sent
sent_at history event = sends three_costs 256 128 history event

-- it has heard of network 30h, one hop and two ticks from port 1
abbrev heard : History
heard = Start ∷ Packet 1 response ∷ []

-- node AAh on network 40h asks for all routes
abbrev request_on_40 : List ℕ
request_on_40 = hex (codes "FFFF0028000100000040FFFFFFFFFFFF0453000000400000000000AA" ++ codes "04530001FFFFFFFFFFFFFFFF")

-- a network of the router costs the ticks of its port and of the one on which it is told
pub costs_at_a_start : sent_at [] Start
    ≡ out 0 all_nodes (hex (codes "FFFF0030000100000010FFFFFFFFFFFF045300000010000000000001" ++ codes "04530002000000200001000A0000004000010004"))
    ∷ out 0 all_nodes (hex (codes "FFFF0028000100000010FFFFFFFFFFFF045300000010000000000001" ++ codes "04530001FFFFFFFFFFFFFFFF"))
    ∷ out 0 all_nodes (hex (codes "FFFF0022000400000010FFFFFFFFFFFF045200000010000000000001" ++ codes "04520001FFFF"))
    ∷ out 1 all_nodes (hex (codes "FFFF0030000100000020FFFFFFFFFFFF045300000020000000000002" ++ codes "04530002000000100001000A0000004000010008"))
    ∷ out 1 all_nodes (hex (codes "FFFF0028000100000020FFFFFFFFFFFF045300000020000000000002" ++ codes "04530001FFFFFFFFFFFFFFFF"))
    ∷ out 1 all_nodes (hex (codes "FFFF0022000400000020FFFFFFFFFFFF045200000020000000000002" ++ codes "04520001FFFF"))
    ∷ out 2 all_nodes (hex (codes "FFFF0030000100000040FFFFFFFFFFFF045300000040000000000004" ++ codes "0453000200000010000100040000002000010008"))
    ∷ out 2 all_nodes (hex (codes "FFFF0028000100000040FFFFFFFFFFFF045300000040000000000004" ++ codes "04530001FFFFFFFFFFFFFFFF"))
    ∷ out 2 all_nodes (hex (codes "FFFF0022000400000040FFFFFFFFFFFF045200000040000000000004" ++ codes "04520001FFFF"))
    ∷ []
unfolding decode_pairs header_bytes address_bytes entry_bytes network_bytes service_bytes name_field packet_of header_at address_at rip_of entry_at sap_of items sap_entry_at name_of network_at
costs_at_a_start = refl

-- news costs the ticks of the port on which it is told more
pub costs_of_news : sent_at (Start ∷ []) (Packet 1 response)
    ≡ out 0 all_nodes (hex (codes "FFFF0028000100000010FFFFFFFFFFFF045300000010000000000001" ++ codes "045300020000003000020005"))
    ∷ out 2 all_nodes (hex (codes "FFFF0028000100000040FFFFFFFFFFFF045300000040000000000004" ++ codes "045300020000003000020003"))
    ∷ []
unfolding decode_pairs header_bytes address_bytes entry_bytes network_bytes service_bytes name_field packet_of header_at address_at rip_of entry_at sap_of items sap_entry_at name_of network_at
costs_of_news = refl

-- an asker is told the costs of its port
pub costs_of_an_answer : sent_at heard (Packet 0 general_request)
    ≡ out 0 (node 0xAA) (hex (codes "FFFF00380001000000100000000000AA045300000010000000000001" ++ codes "04530002000000200001000A00000030000200050000004000010004"))
    ∷ []
unfolding decode_pairs header_bytes address_bytes entry_bytes network_bytes service_bytes name_field packet_of header_at address_at rip_of entry_at sap_of items sap_entry_at name_of network_at
costs_of_an_answer = refl

-- and one on another port those of that
pub costs_of_another_answer : sent_at heard (Packet 2 request_on_40)
    ≡ out 2 (node 0xAA) (hex (codes "FFFF00380001000000400000000000AA045300000040000000000004" ++ codes "04530002000000100001000400000020000100080000003000020003"))
    ∷ []
unfolding decode_pairs header_bytes address_bytes entry_bytes network_bytes service_bytes name_field packet_of header_at address_at rip_of entry_at sap_of items sap_entry_at name_of network_at
costs_of_another_answer = refl

-- at a period each port tells its own
pub costs_at_a_period : sent_at (heard ++ replicate (period - 1) Second) Second
    ≡ out 0 all_nodes (hex (codes "FFFF0038000100000010FFFFFFFFFFFF045300000010000000000001" ++ codes "04530002000000200001000A00000030000200050000004000010004"))
    ∷ out 1 all_nodes (hex (codes "FFFF0030000100000020FFFFFFFFFFFF045300000020000000000002" ++ codes "04530002000000100001000A0000004000010008"))
    ∷ out 2 all_nodes (hex (codes "FFFF0038000100000040FFFFFFFFFFFF045300000040000000000004" ++ codes "04530002000000100001000400000020000100080000003000020003"))
    ∷ []
unfolding decode_pairs header_bytes address_bytes entry_bytes network_bytes service_bytes name_field packet_of header_at address_at rip_of entry_at sap_of items sap_entry_at name_of network_at
costs_at_a_period = refl

-- a port that comes up is told on each other port at its own cost and that port's
pub costs_where_a_port_comes_up : sent_at (Start ∷ PortDown 1 ∷ []) (PortUp 1)
    ≡ out 0 all_nodes (hex (codes "FFFF0028000100000010FFFFFFFFFFFF0453000000100000000000" ++ codes "0104530002000000200001000A"))
    ∷ out 1 all_nodes (hex (codes "FFFF0030000100000020FFFFFFFFFFFF0453000000200000000000" ++ codes "0204530002000000100001000A0000004000010008"))
    ∷ out 1 all_nodes (hex (codes "FFFF0028000100000020FFFFFFFFFFFF0453000000200000000000" ++ codes "0204530001FFFFFFFFFFFFFFFF"))
    ∷ out 1 all_nodes (hex (codes "FFFF0022000400000020FFFFFFFFFFFF0452000000200000000000" ++ codes "0204520001FFFF"))
    ∷ out 2 all_nodes (hex (codes "FFFF0028000100000040FFFFFFFFFFFF0453000000400000000000" ++ codes "04045300020000002000010008"))
    ∷ []
unfolding decode_pairs header_bytes address_bytes entry_bytes network_bytes service_bytes name_field packet_of header_at address_at rip_of entry_at sap_of items sap_entry_at name_of network_at
costs_where_a_port_comes_up = refl
