-- A router stops: all that it told is dead, and it forgets it.
use Rattle.std.proofs.Common.{◌≡◌, ◌-◌, [], ◌∷◌, ◌++◌, refl, codes, replicate}
use Rattle.hex.specs.Hex.{decode_pairs}
use Rattle.ipx_wire.specs.Address.{address_bytes, address_at}
use Rattle.ipx_wire.specs.Crossed.{network_bytes, network_at}
use Rattle.ipx_wire.specs.Header.{header_bytes, header_at}
use Rattle.ipx_wire.specs.Items.{items}
use Rattle.ipx_wire.specs.Name.{name_of, name_field}
use Rattle.ipx_wire.specs.Packet.{packet_of}
use Rattle.ipx_wire.specs.Rip.{rip_of, entry_at, entry_bytes}
use Rattle.ipx_wire.specs.Sap.{sap_of}
use Rattle.ipx_wire.specs.SapEntries.{sap_entry_at}
use Rattle.ipx_wire.specs.WriteServices.{service_bytes}
use Rattle.ipx_router.specs.History.{Start, Stop, Second, Packet}
use Rattle.ipx_router.specs.Numbers.{period}
use Rattle.ipx_router.proofs.examples.Words.{hex, node, sent_by, out, all_nodes, general_request, heard_of_30}

-- all that was told is told as dead
pub a_stop : sent_by heard_of_30 Stop
    ≡ out 0 all_nodes (hex (codes "FFFF0030000100000010FFFFFFFFFFFF045300000010000000000001" ++ codes "04530002000000200010FFFF000000300010FFFF"))
    ∷ out 1 all_nodes (hex (codes "FFFF0028000100000020FFFFFFFFFFFF045300000020000000000002" ++ codes "04530002000000100010FFFF"))
    ∷ []
unfolding decode_pairs header_bytes address_bytes entry_bytes network_bytes service_bytes name_field packet_of header_at address_at rip_of entry_at sap_of items sap_entry_at name_of network_at
a_stop = refl

-- a stopped router answers nothing
pub a_stopped_router_answers_nothing : sent_by (heard_of_30 ++ Stop ∷ []) (Packet 0 general_request)
    ≡ []
unfolding decode_pairs header_bytes address_bytes entry_bytes network_bytes service_bytes name_field packet_of header_at address_at rip_of entry_at sap_of items sap_entry_at name_of network_at
a_stopped_router_answers_nothing = refl

-- for a stopped router no second counts
pub nor_does_time_pass : sent_by (Stop ∷ replicate (period - 1) Second) Second
    ≡ []
unfolding decode_pairs header_bytes address_bytes entry_bytes network_bytes service_bytes name_field packet_of header_at address_at rip_of entry_at sap_of items sap_entry_at name_of network_at
nor_does_time_pass = refl

-- and it doesn't stop again
pub nor_does_it_stop_again : sent_by (heard_of_30 ++ Stop ∷ []) Stop
    ≡ []
unfolding decode_pairs header_bytes address_bytes entry_bytes network_bytes service_bytes name_field packet_of header_at address_at rip_of entry_at sap_of items sap_entry_at name_of network_at
nor_does_it_stop_again = refl

-- started again, it knows nothing of before
pub it_has_forgotten : sent_by (heard_of_30 ++ Stop ∷ Start ∷ []) (Packet 0 general_request)
    ≡ out 0 (node 0xAA) (hex (codes "FFFF00280001000000100000000000AA045300000010000000000001" ++ codes "045300020000002000010002"))
    ∷ []
unfolding decode_pairs header_bytes address_bytes entry_bytes network_bytes service_bytes name_field packet_of header_at address_at rip_of entry_at sap_of items sap_entry_at name_of network_at
it_has_forgotten = refl

-- its seconds count from the later start
pub seconds_count_from_the_start : sent_by (heard_of_30 ++ replicate 30 Second ++ Stop ∷ Second ∷ Start ∷ replicate (period - 1) Second) Second
    ≡ out 0 all_nodes (hex (codes "FFFF0028000100000010FFFFFFFFFFFF045300000010000000000001" ++ codes "045300020000002000010002"))
    ∷ out 1 all_nodes (hex (codes "FFFF0028000100000020FFFFFFFFFFFF045300000020000000000002" ++ codes "045300020000001000010002"))
    ∷ []
unfolding decode_pairs header_bytes address_bytes entry_bytes network_bytes service_bytes name_field packet_of header_at address_at rip_of entry_at sap_of items sap_entry_at name_of network_at
seconds_count_from_the_start = refl
