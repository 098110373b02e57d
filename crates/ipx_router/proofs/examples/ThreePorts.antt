-- A router of three ports: they are served in order, and a packet never leaves by the port on which it came.
use Rattle.std.proofs.Common.{◌≡◌, ◌-◌, ℕ, List, [], ◌∷◌, ◌++◌, refl, codes, replicate}
use Rattle.hex.specs.Hex.{decode_pairs}
use Rattle.ipx_wire.specs.Address.{address_bytes, address_at}
use Rattle.ipx_wire.specs.Crossed.{network_bytes, network_at}
use Rattle.ipx_wire.specs.Header.{header_bytes, header_at}
use Rattle.ipx_wire.specs.Items.{items}
use Rattle.ipx_wire.specs.Name.{name_of, name_field}
use Rattle.ipx_wire.specs.Packet.{packet_of}
use Rattle.ipx_wire.specs.Rip.{rip_of, entry_at, entry_bytes}
use Rattle.ipx_wire.specs.Sap.{sap_of}
use Rattle.ipx_wire.specs.SapEntries.{sap_entry_at}
use Rattle.ipx_wire.specs.WriteServices.{service_bytes}
use Rattle.ipx_router.specs.History.{Start, Stop, Second, Packet}
use Rattle.ipx_router.specs.Numbers.{period}
use Rattle.ipx_router.proofs.examples.Words.{hex, sent_by_three, out, all_nodes, response}

-- node BBh on network 20h tells service A of type 4
abbrev service : List ℕ
service = hex (codes "FFFF0060000400000020FFFFFFFFFFFF0452000000200000000000BB" ++ codes "04520002000441") ++ replicate 50 0 ++ hex (codes "3000000000000104510002")

-- from node BBh on network 20h to all networks
abbrev to_all : List ℕ
to_all = hex (codes "FFFF003E001400000020FFFFFFFFFFFF0455000000200000000000BB" ++ codes "0455") ++ replicate 32 0

-- it has crossed network 40h
abbrev crossed_40 : List ℕ
crossed_40 = hex (codes "FFFF003E011400000020FFFFFFFFFFFF0455000000200000000000BB" ++ codes "045500000040") ++ replicate 28 0

-- at a start each port tells the networks of both others
pub three_start : sent_by_three [] Start
    ≡ out 0 all_nodes (hex (codes "FFFF0030000100000010FFFFFFFFFFFF045300000010000000000001" ++ codes "0453000200000020000100020000004000010002"))
    ∷ out 0 all_nodes (hex (codes "FFFF0028000100000010FFFFFFFFFFFF045300000010000000000001" ++ codes "04530001FFFFFFFFFFFFFFFF"))
    ∷ out 0 all_nodes (hex (codes "FFFF0022000400000010FFFFFFFFFFFF045200000010000000000001" ++ codes "04520001FFFF"))
    ∷ out 1 all_nodes (hex (codes "FFFF0030000100000020FFFFFFFFFFFF045300000020000000000002" ++ codes "0453000200000010000100020000004000010002"))
    ∷ out 1 all_nodes (hex (codes "FFFF0028000100000020FFFFFFFFFFFF045300000020000000000002" ++ codes "04530001FFFFFFFFFFFFFFFF"))
    ∷ out 1 all_nodes (hex (codes "FFFF0022000400000020FFFFFFFFFFFF045200000020000000000002" ++ codes "04520001FFFF"))
    ∷ out 2 all_nodes (hex (codes "FFFF0030000100000040FFFFFFFFFFFF045300000040000000000004" ++ codes "0453000200000010000100020000002000010002"))
    ∷ out 2 all_nodes (hex (codes "FFFF0028000100000040FFFFFFFFFFFF045300000040000000000004" ++ codes "04530001FFFFFFFFFFFFFFFF"))
    ∷ out 2 all_nodes (hex (codes "FFFF0022000400000040FFFFFFFFFFFF045200000040000000000004" ++ codes "04520001FFFF"))
    ∷ []
unfolding decode_pairs header_bytes address_bytes entry_bytes network_bytes service_bytes name_field packet_of header_at address_at rip_of entry_at sap_of items sap_entry_at name_of network_at
three_start = refl

-- news is told on both ports on which it was not heard
pub news_on_the_others : sent_by_three (Start ∷ []) (Packet 1 response)
    ≡ out 0 all_nodes (hex (codes "FFFF0028000100000010FFFFFFFFFFFF045300000010000000000001" ++ codes "045300020000003000020003"))
    ∷ out 2 all_nodes (hex (codes "FFFF0028000100000040FFFFFFFFFFFF045300000040000000000004" ++ codes "045300020000003000020003"))
    ∷ []
unfolding decode_pairs header_bytes address_bytes entry_bytes network_bytes service_bytes name_field packet_of header_at address_at rip_of entry_at sap_of items sap_entry_at name_of network_at
news_on_the_others = refl

-- so are services
pub services_on_the_others : sent_by_three (Start ∷ []) (Packet 1 service)
    ≡ out 0 all_nodes (hex (codes "FFFF0060000400000010FFFFFFFFFFFF045200000010000000000001" ++ codes "04520002000441") ++ replicate 50 0 ++ hex (codes "3000000000000104510003"))
    ∷ out 2 all_nodes (hex (codes "FFFF0060000400000040FFFFFFFFFFFF045200000040000000000004" ++ codes "04520002000441") ++ replicate 50 0 ++ hex (codes "3000000000000104510003"))
    ∷ []
unfolding decode_pairs header_bytes address_bytes entry_bytes network_bytes service_bytes name_field packet_of header_at address_at rip_of entry_at sap_of items sap_entry_at name_of network_at
services_on_the_others = refl

-- at a period a port tells its routes and then its services, before the next one does
pub three_at_a_period : sent_by_three (Start ∷ Packet 1 response ∷ Packet 1 service ∷ replicate (period - 1) Second) Second
    ≡ out 0 all_nodes (hex (codes "FFFF0038000100000010FFFFFFFFFFFF045300000010000000000001" ++ codes "04530002000000200001000200000030000200030000004000010002"))
    ∷ out 0 all_nodes (hex (codes "FFFF0060000400000010FFFFFFFFFFFF045200000010000000000001" ++ codes "04520002000441") ++ replicate 50 0 ++ hex (codes "3000000000000104510003"))
    ∷ out 1 all_nodes (hex (codes "FFFF0030000100000020FFFFFFFFFFFF045300000020000000000002" ++ codes "0453000200000010000100020000004000010002"))
    ∷ out 2 all_nodes (hex (codes "FFFF0038000100000040FFFFFFFFFFFF045300000040000000000004" ++ codes "04530002000000100001000200000020000100020000003000020003"))
    ∷ out 2 all_nodes (hex (codes "FFFF0060000400000040FFFFFFFFFFFF045200000040000000000004" ++ codes "04520002000441") ++ replicate 50 0 ++ hex (codes "3000000000000104510003"))
    ∷ []
unfolding decode_pairs header_bytes address_bytes entry_bytes network_bytes service_bytes name_field packet_of header_at address_at rip_of entry_at sap_of items sap_entry_at name_of network_at
three_at_a_period = refl

-- at a stop likewise
pub three_stop : sent_by_three (Start ∷ Packet 1 response ∷ Packet 1 service ∷ []) Stop
    ≡ out 0 all_nodes (hex (codes "FFFF0038000100000010FFFFFFFFFFFF045300000010000000000001" ++ codes "04530002000000200010FFFF000000300010FFFF000000400010FFFF"))
    ∷ out 0 all_nodes (hex (codes "FFFF0060000400000010FFFFFFFFFFFF045200000010000000000001" ++ codes "04520002000441") ++ replicate 50 0 ++ hex (codes "3000000000000104510010"))
    ∷ out 1 all_nodes (hex (codes "FFFF0030000100000020FFFFFFFFFFFF045300000020000000000002" ++ codes "04530002000000100010FFFF000000400010FFFF"))
    ∷ out 2 all_nodes (hex (codes "FFFF0038000100000040FFFFFFFFFFFF045300000040000000000004" ++ codes "04530002000000100010FFFF000000200010FFFF000000300010FFFF"))
    ∷ out 2 all_nodes (hex (codes "FFFF0060000400000040FFFFFFFFFFFF045200000040000000000004" ++ codes "04520002000441") ++ replicate 50 0 ++ hex (codes "3000000000000104510010"))
    ∷ []
unfolding decode_pairs header_bytes address_bytes entry_bytes network_bytes service_bytes name_field packet_of header_at address_at rip_of entry_at sap_of items sap_entry_at name_of network_at
three_stop = refl

-- what is for all networks leaves on both other ports
pub propagated_on_both : sent_by_three (Start ∷ []) (Packet 1 to_all)
    ≡ out 0 all_nodes (hex (codes "FFFF003E011400000010FFFFFFFFFFFF0455000000200000000000BB" ++ codes "045500000020") ++ replicate 28 0)
    ∷ out 2 all_nodes (hex (codes "FFFF003E011400000040FFFFFFFFFFFF0455000000200000000000BB" ++ codes "045500000020") ++ replicate 28 0)
    ∷ []
unfolding decode_pairs header_bytes address_bytes entry_bytes network_bytes service_bytes name_field packet_of header_at address_at rip_of entry_at sap_of items sap_entry_at name_of network_at
propagated_on_both = refl

-- and on one where it has crossed the other
pub propagated_on_one : sent_by_three (Start ∷ []) (Packet 1 crossed_40)
    ≡ out 0 all_nodes (hex (codes "FFFF003E021400000010FFFFFFFFFFFF0455000000200000000000BB" ++ codes "04550000004000000020000000000000000000000000000000000000" ++ codes "000000000000"))
    ∷ []
unfolding decode_pairs header_bytes address_bytes entry_bytes network_bytes service_bytes name_field packet_of header_at address_at rip_of entry_at sap_of items sap_entry_at name_of network_at
propagated_on_one = refl
