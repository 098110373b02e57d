-- Routes are withdrawn, offered again, replaced and worsened: what changed by an event is told once, as it stands after it.
use Rattle.std.proofs.Common.{◌≡◌, ℕ, List, [], ◌∷◌, ◌++◌, refl, codes}
use Rattle.hex.specs.Hex.{decode_pairs}
use Rattle.ipx_wire.specs.Address.{address_bytes, address_at}
use Rattle.ipx_wire.specs.Crossed.{network_bytes, network_at}
use Rattle.ipx_wire.specs.Header.{header_bytes, header_at}
use Rattle.ipx_wire.specs.Items.{items}
use Rattle.ipx_wire.specs.Name.{name_of, name_field}
use Rattle.ipx_wire.specs.Packet.{packet_of}
use Rattle.ipx_wire.specs.Rip.{rip_of, entry_at, entry_bytes}
use Rattle.ipx_wire.specs.Sap.{sap_of}
use Rattle.ipx_wire.specs.SapEntries.{sap_entry_at}
use Rattle.ipx_wire.specs.WriteServices.{service_bytes}
use Rattle.ipx_router.specs.History.{Start, Packet}
use Rattle.ipx_router.proofs.examples.Words.{hex, sent_by, out, all_nodes, response, heard_of_30}

-- node BBh on network 20h reaches network 30h no longer
abbrev withdrawal : List ℕ
withdrawal = (hex (codes "FFFF0028000100000020FFFFFFFFFFFF0453000000200000000000BB" ++ codes "04530002000000300010FFFF"))

-- it withdraws network 30h and offers it again, as it was
abbrev withdrawn_and_offered : List ℕ
withdrawn_and_offered = (hex (codes "FFFF0030000100000020FFFFFFFFFFFF0453000000200000000000BB" ++ codes "04530002000000300010FFFF0000003000010002"))

-- node AAh on network 10h has a better way there, withdraws it, and knows network 77h
abbrev by_the_other_port : List ℕ
by_the_other_port = (hex (codes "FFFF0038000100000010FFFFFFFFFFFF0453000000100000000000AA" ++ codes "045300020000003000010001000000300010FFFF0000007700010002"))

-- node AAh on network 10h has a better way there
abbrev better : List ℕ
better = (hex (codes "FFFF0028000100000010FFFFFFFFFFFF0453000000100000000000AA" ++ codes "045300020000003000010001"))

-- an entry each for the networks that no route is taken for, and one more
abbrev skipped : List ℕ
skipped = (hex (codes "FFFF0048000100000020FFFFFFFFFFFF0453000000200000000000BB" ++ codes "045300020000000000010002FFFFFFFF000100020000001000010002" ++ codes "00000020000100020000003000010002"))

-- what is heard again as it was isn't told
pub a_refresh_is_no_news : sent_by heard_of_30 (Packet 1 response)
    ≡ []
unfolding decode_pairs header_bytes address_bytes entry_bytes network_bytes service_bytes name_field packet_of header_at address_at rip_of entry_at sap_of items sap_entry_at name_of network_at
a_refresh_is_no_news = refl

-- what its neighbour withdraws is told as dead
pub a_withdrawal_is_told : sent_by heard_of_30 (Packet 1 withdrawal)
    ≡ out 0 all_nodes (hex (codes "FFFF0028000100000010FFFFFFFFFFFF045300000010000000000001" ++ codes "04530002000000300010FFFF"))
    ∷ []
unfolding decode_pairs header_bytes address_bytes entry_bytes network_bytes service_bytes name_field packet_of header_at address_at rip_of entry_at sap_of items sap_entry_at name_of network_at
a_withdrawal_is_told = refl

-- what ends and comes back as it was within one packet isn't told
pub withdrawn_and_offered_is_no_news : sent_by heard_of_30 (Packet 1 withdrawn_and_offered)
    ≡ []
unfolding decode_pairs header_bytes address_bytes entry_bytes network_bytes service_bytes name_field packet_of header_at address_at rip_of entry_at sap_of items sap_entry_at name_of network_at
withdrawn_and_offered_is_no_news = refl

-- a route that was replaced and then withdrawn was last known on the other port, and is told there as before the packet
pub replaced_and_withdrawn : sent_by heard_of_30 (Packet 0 by_the_other_port)
    ≡ out 0 all_nodes (hex (codes "FFFF0028000100000010FFFFFFFFFFFF045300000010000000000001" ++ codes "04530002000000300010FFFF"))
    ∷ out 1 all_nodes (hex (codes "FFFF0028000100000020FFFFFFFFFFFF045300000020000000000002" ++ codes "045300020000007700020003"))
    ∷ []
unfolding decode_pairs header_bytes address_bytes entry_bytes network_bytes service_bytes name_field packet_of header_at address_at rip_of entry_at sap_of items sap_entry_at name_of network_at
replaced_and_withdrawn = refl

-- a better way by the other port is told where the old one was learned
pub replaced : sent_by heard_of_30 (Packet 0 better)
    ≡ out 1 all_nodes (hex (codes "FFFF0028000100000020FFFFFFFFFFFF045300000020000000000002" ++ codes "045300020000003000020002"))
    ∷ []
unfolding decode_pairs header_bytes address_bytes entry_bytes network_bytes service_bytes name_field packet_of header_at address_at rip_of entry_at sap_of items sap_entry_at name_of network_at
replaced = refl

-- networks 0, FFFFFFFFh and those of the ports are skipped
pub networks_of_no_route : sent_by (Start ∷ []) (Packet 1 skipped)
    ≡ out 0 all_nodes (hex (codes "FFFF0028000100000010FFFFFFFFFFFF045300000010000000000001" ++ codes "045300020000003000020003"))
    ∷ []
unfolding decode_pairs header_bytes address_bytes entry_bytes network_bytes service_bytes name_field packet_of header_at address_at rip_of entry_at sap_of items sap_entry_at name_of network_at
networks_of_no_route = refl
