-- Lists longer than a packet: fifty entries or seven services go into one, and the rest into the next.
use Rattle.std.proofs.Common.{◌≡◌, ◌-◌, ℕ, List, [], ◌∷◌, ◌++◌, refl, codes, replicate, Some}
use Rattle.hex.specs.Hex.{decode_pairs}
use Rattle.ipx_wire.specs.Address.{address_bytes, address_at}
use Rattle.ipx_wire.specs.Crossed.{network_bytes, network_at}
use Rattle.ipx_wire.specs.Header.{header_bytes, header_at}
use Rattle.ipx_wire.specs.Items.{items}
use Rattle.ipx_wire.specs.Name.{name_of, name_field}
use Rattle.ipx_wire.specs.Packet.{packet_of}
use Rattle.ipx_wire.specs.Rip.{rip_of, entry_at, entry_bytes}
use Rattle.ipx_wire.specs.Sap.{sap_of}
use Rattle.ipx_wire.specs.SapEntries.{sap_entry_at}
use Rattle.ipx_wire.specs.WriteServices.{service_bytes}
use Rattle.ipx_wire.specs.declared.rip.RipFault.TheVariants.{TooMany}
use Rattle.ipx_router.specs.History.{Start, Second, Packet}
use Rattle.ipx_router.specs.Numbers.{period}
use Rattle.ipx_router.specs.declared.why.Why.TheVariants.{BadRip}
use Rattle.ipx_router.proofs.examples.Words.{hex, node, sent_by, dropped_by, out, all_nodes, entries, fifty}

-- node AAh tells one network more than fifty
abbrev fifty_one : List ℕ
fifty_one = hex (codes "FFFF01B8000100000010FFFFFFFFFFFF0453000000100000000000AA0453" ++ codes "0002") ++ entries 1 1 51 1 2

-- node BBh on network 20h asks for all routes
abbrev by_b : List ℕ
by_b = hex (codes "FFFF0028000100000020FFFFFFFFFFFF0453000000200000000000BB0453" ++ codes "0001FFFFFFFFFFFFFFFF")

-- node BBh on network 20h tells services A to G of type 4
abbrev seven : List ℕ
seven = hex (codes "FFFF01E0000400000020FFFFFFFFFFFF0452000000200000000000BB0452" ++ codes "0002000441") ++ replicate 50 0 ++ hex (codes "3000000000000104510001000442") ++ replicate 50 0 ++ hex (codes "3000000000000104510001000443") ++ replicate 50 0 ++ hex (codes "3000000000000104510001000444") ++ replicate 50 0 ++ hex (codes "3000000000000104510001000445") ++ replicate 50 0 ++ hex (codes "3000000000000104510001000446") ++ replicate 50 0 ++ hex (codes "3000000000000104510001000447") ++ replicate 50 0 ++ hex (codes "3000000000000104510001")

-- and service H
abbrev an_eighth : List ℕ
an_eighth = hex (codes "FFFF0060000400000020FFFFFFFFFFFF0452000000200000000000BB0452" ++ codes "0002000448") ++ replicate 50 0 ++ hex (codes "3000000000000104510001")

-- node AAh on network 10h asks for all services
abbrev all_services : List ℕ
all_services = hex (codes "FFFF0022000400000010FFFFFFFFFFFF0452000000100000000000AA4003" ++ codes "0001FFFF")

-- fifty entries fill one packet
pub fifty_in_one : sent_by (Start ∷ []) (Packet 0 fifty)
    ≡ out 1 all_nodes (hex (codes "FFFF01B0000100000020FFFFFFFFFFFF0453000000200000000000020453" ++ codes "0002") ++ entries 1 1 50 2 3)
    ∷ []
unfolding decode_pairs header_bytes address_bytes entry_bytes network_bytes service_bytes name_field packet_of header_at address_at rip_of entry_at sap_of items sap_entry_at name_of network_at
fifty_in_one = refl

-- more than fifty don't come in one
pub fifty_one_in_none : dropped_by (Start ∷ []) 0 fifty_one ≡ Some (BadRip TooMany)
unfolding decode_pairs header_bytes address_bytes entry_bytes network_bytes service_bytes name_field packet_of header_at address_at rip_of entry_at sap_of items sap_entry_at name_of network_at
fifty_one_in_none = refl

-- with the network of the other port they are one too many: the last goes into a packet of its own
pub a_second_packet : sent_by (Start ∷ Packet 0 fifty ∷ replicate (period - 1) Second) Second
    ≡ out 0 all_nodes (hex (codes "FFFF0028000100000010FFFFFFFFFFFF0453000000100000000000010453" ++ codes "00020000002000010002"))
    ∷ out 1 all_nodes (hex (codes "FFFF01B0000100000020FFFFFFFFFFFF0453000000200000000000020453" ++ codes "00020000001000010002") ++ entries 1 1 49 2 3)
    ∷ out 1 all_nodes (hex (codes "FFFF0028000100000020FFFFFFFFFFFF0453000000200000000000020453" ++ codes "0002") ++ entries 1 50 1 2 3)
    ∷ []
unfolding decode_pairs header_bytes address_bytes entry_bytes network_bytes service_bytes name_field packet_of header_at address_at rip_of entry_at sap_of items sap_entry_at name_of network_at
a_second_packet = refl

-- so is an asker answered
pub a_second_answer : sent_by (Start ∷ Packet 0 fifty ∷ []) (Packet 1 by_b)
    ≡ out 1 (node 0xBB) (hex (codes "FFFF01B00001000000200000000000BB0453000000200000000000020453" ++ codes "00020000001000010002") ++ entries 1 1 49 2 3)
    ∷ out 1 (node 0xBB) (hex (codes "FFFF00280001000000200000000000BB0453000000200000000000020453" ++ codes "0002") ++ entries 1 50 1 2 3)
    ∷ []
unfolding decode_pairs header_bytes address_bytes entry_bytes network_bytes service_bytes name_field packet_of header_at address_at rip_of entry_at sap_of items sap_entry_at name_of network_at
a_second_answer = refl

-- seven services fill one packet
pub seven_in_one : sent_by (Start ∷ []) (Packet 1 seven)
    ≡ out 0 all_nodes (hex (codes "FFFF01E0000400000010FFFFFFFFFFFF0452000000100000000000010452" ++ codes "0002000441") ++ replicate 50 0 ++ hex (codes "3000000000000104510002000442") ++ replicate 50 0 ++ hex (codes "3000000000000104510002000443") ++ replicate 50 0 ++ hex (codes "3000000000000104510002000444") ++ replicate 50 0 ++ hex (codes "3000000000000104510002000445") ++ replicate 50 0 ++ hex (codes "3000000000000104510002000446") ++ replicate 50 0 ++ hex (codes "3000000000000104510002000447") ++ replicate 50 0 ++ hex (codes "3000000000000104510002"))
    ∷ []
unfolding decode_pairs header_bytes address_bytes entry_bytes network_bytes service_bytes name_field packet_of header_at address_at rip_of entry_at sap_of items sap_entry_at name_of network_at
seven_in_one = refl

-- the eighth goes into another
pub the_eighth_in_another : sent_by (Start ∷ Packet 1 seven ∷ Packet 1 an_eighth ∷ []) (Packet 0 all_services)
    ≡ out 0 (node 0xAA) (hex (codes "FFFF01E00004000000100000000000AA4003000000100000000000010452" ++ codes "0002000441") ++ replicate 50 0 ++ hex (codes "3000000000000104510002000442") ++ replicate 50 0 ++ hex (codes "3000000000000104510002000443") ++ replicate 50 0 ++ hex (codes "3000000000000104510002000444") ++ replicate 50 0 ++ hex (codes "3000000000000104510002000445") ++ replicate 50 0 ++ hex (codes "3000000000000104510002000446") ++ replicate 50 0 ++ hex (codes "3000000000000104510002000447") ++ replicate 50 0 ++ hex (codes "3000000000000104510002"))
    ∷ out 0 (node 0xAA) (hex (codes "FFFF00600004000000100000000000AA4003000000100000000000010452" ++ codes "0002000448") ++ replicate 50 0 ++ hex (codes "3000000000000104510002"))
    ∷ []
unfolding decode_pairs header_bytes address_bytes entry_bytes network_bytes service_bytes name_field packet_of header_at address_at rip_of entry_at sap_of items sap_entry_at name_of network_at
the_eighth_in_another = refl
