-- A service fifteen hops away: the next hop doesn't reach it.
use Rattle.std.proofs.Common.{◌≡◌, ◌-◌, ℕ, List, [], ◌∷◌, ◌++◌, refl, codes, replicate}
use Rattle.hex.specs.Hex.{decode_pairs}
use Rattle.ipx_wire.specs.Address.{address_bytes, address_at}
use Rattle.ipx_wire.specs.Crossed.{network_bytes, network_at}
use Rattle.ipx_wire.specs.Header.{header_bytes, header_at}
use Rattle.ipx_wire.specs.Items.{items}
use Rattle.ipx_wire.specs.Name.{name_of, name_field}
use Rattle.ipx_wire.specs.Packet.{packet_of}
use Rattle.ipx_wire.specs.Rip.{rip_of, entry_at, entry_bytes}
use Rattle.ipx_wire.specs.Sap.{sap_of}
use Rattle.ipx_wire.specs.SapEntries.{sap_entry_at}
use Rattle.ipx_wire.specs.WriteServices.{service_bytes}
use Rattle.ipx_router.specs.History.{Start, Stop, Second, Packet}
use Rattle.ipx_router.specs.Numbers.{period}
use Rattle.ipx_router.proofs.examples.Words.{hex, node, sent_by, out, all_nodes}

-- node BBh on network 20h tells services A fifteen and B fourteen hops away
abbrev far : List ℕ
far = hex (codes "FFFF00A0000400000020FFFFFFFFFFFF0452000000200000000000BB" ++ codes "04520002000441") ++ replicate 50 0 ++ hex (codes "300000000000010451000F000442") ++ replicate 50 0 ++ hex (codes "300000000000010451000E")

-- service A alone
abbrev far_alone : List ℕ
far_alone = hex (codes "FFFF0060000400000020FFFFFFFFFFFF0452000000200000000000BB" ++ codes "04520002000441") ++ replicate 50 0 ++ hex (codes "300000000000010451000F")

-- node AAh on network 10h asks for the services of type 4
abbrev query : List ℕ
query = hex (codes "FFFF0022000400000010FFFFFFFFFFFF0452000000100000000000AA" ++ codes "400300010004")

-- for the nearest of them
abbrev nearest : List ℕ
nearest = hex (codes "FFFF0022000400000010FFFFFFFFFFFF0452000000100000000000AA" ++ codes "400300030004")

-- as news it is told as down, the nearer one a hop farther
pub far_as_news : sent_by (Start ∷ []) (Packet 1 far)
    ≡ out 0 all_nodes (hex (codes "FFFF00A0000400000010FFFFFFFFFFFF045200000010000000000001" ++ codes "04520002000441") ++ replicate 50 0 ++ hex (codes "3000000000000104510010000442") ++ replicate 50 0 ++ hex (codes "300000000000010451000F"))
    ∷ []
unfolding decode_pairs header_bytes address_bytes entry_bytes network_bytes service_bytes name_field packet_of header_at address_at rip_of entry_at sap_of items sap_entry_at name_of network_at
far_as_news = refl

-- an asker doesn't hear of it
pub far_and_asked_for : sent_by (Start ∷ Packet 1 far ∷ []) (Packet 0 query)
    ≡ out 0 (node 0xAA) (hex (codes "FFFF00600004000000100000000000AA400300000010000000000001" ++ codes "04520002000442") ++ replicate 50 0 ++ hex (codes "300000000000010451000F"))
    ∷ []
unfolding decode_pairs header_bytes address_bytes entry_bytes network_bytes service_bytes name_field packet_of header_at address_at rip_of entry_at sap_of items sap_entry_at name_of network_at
far_and_asked_for = refl

-- nor is it the nearest
pub far_is_no_nearest : sent_by (Start ∷ Packet 1 far_alone ∷ []) (Packet 0 nearest)
    ≡ []
unfolding decode_pairs header_bytes address_bytes entry_bytes network_bytes service_bytes name_field packet_of header_at address_at rip_of entry_at sap_of items sap_entry_at name_of network_at
far_is_no_nearest = refl

-- at a period it isn't told
pub far_at_a_period : sent_by (Start ∷ Packet 1 far ∷ replicate (period - 1) Second) Second
    ≡ out 0 all_nodes (hex (codes "FFFF0028000100000010FFFFFFFFFFFF045300000010000000000001" ++ codes "045300020000002000010002"))
    ∷ out 0 all_nodes (hex (codes "FFFF0060000400000010FFFFFFFFFFFF045200000010000000000001" ++ codes "04520002000442") ++ replicate 50 0 ++ hex (codes "300000000000010451000F"))
    ∷ out 1 all_nodes (hex (codes "FFFF0028000100000020FFFFFFFFFFFF045300000020000000000002" ++ codes "045300020000001000010002"))
    ∷ []
unfolding decode_pairs header_bytes address_bytes entry_bytes network_bytes service_bytes name_field packet_of header_at address_at rip_of entry_at sap_of items sap_entry_at name_of network_at
far_at_a_period = refl

-- nor at a stop
pub far_at_a_stop : sent_by (Start ∷ Packet 1 far ∷ []) Stop
    ≡ out 0 all_nodes (hex (codes "FFFF0028000100000010FFFFFFFFFFFF045300000010000000000001" ++ codes "04530002000000200010FFFF"))
    ∷ out 0 all_nodes (hex (codes "FFFF0060000400000010FFFFFFFFFFFF045200000010000000000001" ++ codes "04520002000442") ++ replicate 50 0 ++ hex (codes "3000000000000104510010"))
    ∷ out 1 all_nodes (hex (codes "FFFF0028000100000020FFFFFFFFFFFF045300000020000000000002" ++ codes "04530002000000100010FFFF"))
    ∷ []
unfolding decode_pairs header_bytes address_bytes entry_bytes network_bytes service_bytes name_field packet_of header_at address_at rip_of entry_at sap_of items sap_entry_at name_of network_at
far_at_a_stop = refl

-- service A two hops away
abbrev near : List ℕ
near = hex (codes "FFFF0060000400000020FFFFFFFFFFFF0452000000200000000000BB" ++ codes "04520002000441") ++ replicate 50 0 ++ hex (codes "3000000000000104510002")

-- service A at another address, fifteen hops away
abbrev moved_away : List ℕ
moved_away = hex (codes "FFFF0060000400000020FFFFFFFFFFFF0452000000200000000000BB" ++ codes "04520002000441") ++ replicate 50 0 ++ hex (codes "310000000000020451000F")

-- a service that moves out of reach is unreachable at its new address
pub moved_out_of_reach : sent_by (Start ∷ Packet 1 near ∷ []) (Packet 1 moved_away)
    ≡ out 0 all_nodes (hex (codes "FFFF0060000400000010FFFFFFFFFFFF045200000010000000000001" ++ codes "04520002000441") ++ replicate 50 0 ++ hex (codes "3100000000000204510010"))
    ∷ []
unfolding decode_pairs header_bytes address_bytes entry_bytes network_bytes service_bytes name_field packet_of header_at address_at rip_of entry_at sap_of items sap_entry_at name_of network_at
moved_out_of_reach = refl
