-- Seconds pass: the last of each period is told of all, and the last of its lifetime ends a route.
use Rattle.std.proofs.Common.{◌≡◌, ◌*◌, ◌+◌, ◌-◌, [], ◌∷◌, ◌++◌, refl, codes, replicate}
use Rattle.hex.specs.Hex.{decode_pairs}
use Rattle.ipx_wire.specs.Address.{address_bytes, address_at}
use Rattle.ipx_wire.specs.Crossed.{network_bytes, network_at}
use Rattle.ipx_wire.specs.Header.{header_bytes, header_at}
use Rattle.ipx_wire.specs.Items.{items}
use Rattle.ipx_wire.specs.Name.{name_of, name_field}
use Rattle.ipx_wire.specs.Packet.{packet_of}
use Rattle.ipx_wire.specs.Rip.{rip_of, entry_at, entry_bytes}
use Rattle.ipx_wire.specs.Sap.{sap_of}
use Rattle.ipx_wire.specs.SapEntries.{sap_entry_at}
use Rattle.ipx_wire.specs.WriteServices.{service_bytes}
use Rattle.ipx_table.specs.Alive.{lifetime}
use Rattle.ipx_router.specs.History.{Start, Second, Packet}
use Rattle.ipx_router.specs.Numbers.{period}
use Rattle.ipx_router.proofs.examples.Words.{hex, sent_by, out, all_nodes, response, heard_of_30}

-- nothing is told in the second before
pub a_quiet_second : sent_by (heard_of_30 ++ replicate (period - 2) Second) Second
    ≡ []
unfolding decode_pairs header_bytes address_bytes entry_bytes network_bytes service_bytes name_field packet_of header_at address_at rip_of entry_at sap_of items sap_entry_at name_of network_at
a_quiet_second = refl

-- all is told in the last second of a period
pub the_first_period : sent_by (heard_of_30 ++ replicate (period - 1) Second) Second
    ≡ out 0 all_nodes (hex (codes "FFFF0030000100000010FFFFFFFFFFFF045300000010000000000001" ++ codes "0453000200000020000100020000003000020003"))
    ∷ out 1 all_nodes (hex (codes "FFFF0028000100000020FFFFFFFFFFFF045300000020000000000002" ++ codes "045300020000001000010002"))
    ∷ []
unfolding decode_pairs header_bytes address_bytes entry_bytes network_bytes service_bytes name_field packet_of header_at address_at rip_of entry_at sap_of items sap_entry_at name_of network_at
the_first_period = refl

-- and in the last of the next one
pub the_second_period : sent_by (heard_of_30 ++ replicate (2 * period - 1) Second) Second
    ≡ out 0 all_nodes (hex (codes "FFFF0030000100000010FFFFFFFFFFFF045300000010000000000001" ++ codes "0453000200000020000100020000003000020003"))
    ∷ out 1 all_nodes (hex (codes "FFFF0028000100000020FFFFFFFFFFFF045300000020000000000002" ++ codes "045300020000001000010002"))
    ∷ []
unfolding decode_pairs header_bytes address_bytes entry_bytes network_bytes service_bytes name_field packet_of header_at address_at rip_of entry_at sap_of items sap_entry_at name_of network_at
the_second_period = refl

-- nothing is told in the last second in which the route lives
pub a_second_before_the_end : sent_by (heard_of_30 ++ replicate (lifetime - 2) Second) Second
    ≡ []
unfolding decode_pairs header_bytes address_bytes entry_bytes network_bytes service_bytes name_field packet_of header_at address_at rip_of entry_at sap_of items sap_entry_at name_of network_at
a_second_before_the_end = refl

-- in the next the route ends, and stands among the rest as dead
pub the_end : sent_by (heard_of_30 ++ replicate (lifetime - 1) Second) Second
    ≡ out 0 all_nodes (hex (codes "FFFF0030000100000010FFFFFFFFFFFF045300000010000000000001" ++ codes "045300020000002000010002000000300010FFFF"))
    ∷ out 1 all_nodes (hex (codes "FFFF0028000100000020FFFFFFFFFFFF045300000020000000000002" ++ codes "045300020000001000010002"))
    ∷ []
unfolding decode_pairs header_bytes address_bytes entry_bytes network_bytes service_bytes name_field packet_of header_at address_at rip_of entry_at sap_of items sap_entry_at name_of network_at
the_end = refl

-- from then on only the ports' networks are told
pub it_is_gone : sent_by (heard_of_30 ++ replicate (lifetime + period - 1) Second) Second
    ≡ out 0 all_nodes (hex (codes "FFFF0028000100000010FFFFFFFFFFFF045300000010000000000001" ++ codes "045300020000002000010002"))
    ∷ out 1 all_nodes (hex (codes "FFFF0028000100000020FFFFFFFFFFFF045300000020000000000002" ++ codes "045300020000001000010002"))
    ∷ []
unfolding decode_pairs header_bytes address_bytes entry_bytes network_bytes service_bytes name_field packet_of header_at address_at rip_of entry_at sap_of items sap_entry_at name_of network_at
it_is_gone = refl

-- a route that ends between two periods is told alone
pub an_end_between_periods : sent_by (Start ∷ Second ∷ Packet 1 response ∷ replicate (lifetime - 1) Second) Second
    ≡ out 0 all_nodes (hex (codes "FFFF0028000100000010FFFFFFFFFFFF045300000010000000000001" ++ codes "04530002000000300010FFFF"))
    ∷ []
unfolding decode_pairs header_bytes address_bytes entry_bytes network_bytes service_bytes name_field packet_of header_at address_at rip_of entry_at sap_of items sap_entry_at name_of network_at
an_end_between_periods = refl
