-- Routes fourteen and fifteen hops away: the next router on reaches the one, and not the other.
use Rattle.std.proofs.Common.{◌≡◌, ◌-◌, ℕ, List, [], ◌∷◌, ◌++◌, refl, codes, replicate}
use Rattle.hex.specs.Hex.{decode_pairs}
use Rattle.ipx_wire.specs.Address.{address_bytes, address_at}
use Rattle.ipx_wire.specs.Crossed.{network_bytes, network_at}
use Rattle.ipx_wire.specs.Header.{header_bytes, header_at}
use Rattle.ipx_wire.specs.Items.{items}
use Rattle.ipx_wire.specs.Name.{name_of, name_field}
use Rattle.ipx_wire.specs.Packet.{packet_of}
use Rattle.ipx_wire.specs.Rip.{rip_of, entry_at, entry_bytes}
use Rattle.ipx_wire.specs.Sap.{sap_of}
use Rattle.ipx_wire.specs.SapEntries.{sap_entry_at}
use Rattle.ipx_wire.specs.WriteServices.{service_bytes}
use Rattle.ipx_router.specs.History.{Start, Stop, Second, Packet, PortDown}
use Rattle.ipx_router.specs.Numbers.{period}
use Rattle.ipx_router.proofs.examples.Words.{hex, node, sent_by, out, all_nodes, general_request}

-- node BBh on network 20h tells network 30h fourteen and network 31h fifteen hops away
abbrev far : List ℕ
far = hex (codes "FFFF0030000100000020FFFFFFFFFFFF0453000000200000000000BB0453" ++ codes "000200000030000E000200000031000F0002")

-- as news the one is told fifteen hops away, and the other as dead
pub far_news : sent_by (Start ∷ []) (Packet 1 far)
    ≡ out 0 all_nodes (hex (codes "FFFF0030000100000010FFFFFFFFFFFF0453000000100000000000010453" ++ codes "000200000030000F0003000000310010FFFF"))
    ∷ []
unfolding decode_pairs header_bytes address_bytes entry_bytes network_bytes service_bytes name_field packet_of header_at address_at rip_of entry_at sap_of items sap_entry_at name_of network_at
far_news = refl

-- an asker hears of the one, and nothing of the other
pub far_and_asked_for : sent_by (Start ∷ Packet 1 far ∷ []) (Packet 0 general_request)
    ≡ out 0 (node 0xAA) (hex (codes "FFFF00300001000000100000000000AA0453000000100000000000010453" ++ codes "0002000000200001000200000030000F0003"))
    ∷ []
unfolding decode_pairs header_bytes address_bytes entry_bytes network_bytes service_bytes name_field packet_of header_at address_at rip_of entry_at sap_of items sap_entry_at name_of network_at
far_and_asked_for = refl

-- so it is at a period
pub far_at_a_period : sent_by (Start ∷ Packet 1 far ∷ replicate (period - 1) Second) Second
    ≡ out 0 all_nodes (hex (codes "FFFF0030000100000010FFFFFFFFFFFF0453000000100000000000010453" ++ codes "0002000000200001000200000030000F0003"))
    ∷ out 1 all_nodes (hex (codes "FFFF0028000100000020FFFFFFFFFFFF0453000000200000000000020453" ++ codes "00020000001000010002"))
    ∷ []
unfolding decode_pairs header_bytes address_bytes entry_bytes network_bytes service_bytes name_field packet_of header_at address_at rip_of entry_at sap_of items sap_entry_at name_of network_at
far_at_a_period = refl

-- and at a stop
pub far_at_a_stop : sent_by (Start ∷ Packet 1 far ∷ []) Stop
    ≡ out 0 all_nodes (hex (codes "FFFF0030000100000010FFFFFFFFFFFF0453000000100000000000010453" ++ codes "0002000000200010FFFF000000300010FFFF"))
    ∷ out 1 all_nodes (hex (codes "FFFF0028000100000020FFFFFFFFFFFF0453000000200000000000020453" ++ codes "0002000000100010FFFF"))
    ∷ []
unfolding decode_pairs header_bytes address_bytes entry_bytes network_bytes service_bytes name_field packet_of header_at address_at rip_of entry_at sap_of items sap_entry_at name_of network_at
far_at_a_stop = refl

-- both are told as dead where the port of their neighbour goes down
pub far_behind_a_down_port : sent_by (Start ∷ Packet 1 far ∷ []) (PortDown 1)
    ≡ out 0 all_nodes (hex (codes "FFFF0038000100000010FFFFFFFFFFFF0453000000100000000000010453" ++ codes "0002000000200010FFFF000000300010FFFF000000310010FFFF"))
    ∷ []
unfolding decode_pairs header_bytes address_bytes entry_bytes network_bytes service_bytes name_field packet_of header_at address_at rip_of entry_at sap_of items sap_entry_at name_of network_at
far_behind_a_down_port = refl
