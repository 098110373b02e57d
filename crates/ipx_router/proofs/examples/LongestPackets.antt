-- Ports whose longest packets differ: the port on which a packet leaves decides, not the one on which it came.
use Rattle.std.proofs.Common.{◌≡◌, ℕ, List, [], ◌∷◌, ◌++◌, refl, codes, replicate, true, Option, None, Some}
use Rattle.hex.specs.Hex.{decode_pairs}
use Rattle.ipx_wire.specs.Address.{address_bytes, address_at}
use Rattle.ipx_wire.specs.Crossed.{network_bytes, network_at}
use Rattle.ipx_wire.specs.Header.{header_bytes, header_at}
use Rattle.ipx_wire.specs.Items.{items}
use Rattle.ipx_wire.specs.Name.{name_of, name_field}
use Rattle.ipx_wire.specs.Packet.{packet_of}
use Rattle.ipx_wire.specs.Rip.{rip_of, entry_at, entry_bytes}
use Rattle.ipx_wire.specs.Sap.{sap_of}
use Rattle.ipx_wire.specs.SapEntries.{sap_entry_at}
use Rattle.ipx_wire.specs.WriteServices.{service_bytes}
use Rattle.ipx_router.specs.History.{Start, Packet}
use Rattle.ipx_router.specs.Port.{Port}
use Rattle.ipx_router.specs.Relays.{Sent}
use Rattle.ipx_router.specs.Sends.{sends}
use Rattle.ipx_router.specs.Why.{why}
use Rattle.ipx_router.specs.declared.why.Why.TheVariants.{TooLong}
use Rattle.ipx_router.specs.declared.why.Why.{Why}
use Rattle.ipx_router.proofs.examples.Words.{hex, node, port_on, out, all_nodes}

-- up to 700 bytes may leave on network 10h, up to 576 on network 20h
abbrev wide_and_narrow : List Port
wide_and_narrow = record (port_on 0x10 1) { longest = 700 } ∷ port_on 0x20 2 ∷ []

abbrev sent_on : ℕ → List ℕ → List Sent
sent_on port bytes = sends wide_and_narrow 256 128 (Start ∷ []) (Packet port bytes)

abbrev dropped_on : ℕ → List ℕ → Option Why
dropped_on port bytes = why wide_and_narrow (0 ∷ 1 ∷ []) [] true port bytes

-- 577 bytes from node AAh on network 10h to node CCh on network 20h
abbrev long_to_20 : List ℕ
long_to_20 = hex (codes "FFFF02410000000000200000000000CC4003000000100000000000AA4003") ++ replicate 547 0

-- 577 bytes from node BBh on network 20h to node CCh on network 10h
abbrev long_to_10 : List ℕ
long_to_10 = hex (codes "FFFF02410000000000100000000000CC4003000000200000000000BB4003") ++ replicate 547 0

-- 577 bytes from each to all networks
abbrev long_to_all_from_10 : List ℕ
long_to_all_from_10 = hex (codes "FFFF0241001400000010FFFFFFFFFFFF0455000000100000000000AA0455") ++ replicate 547 0

abbrev long_to_all_from_20 : List ℕ
long_to_all_from_20 = hex (codes "FFFF0241001400000020FFFFFFFFFFFF0455000000200000000000BB0455") ++ replicate 547 0

-- they are too long for network 20h
pub too_long_for_the_narrow : dropped_on 0 long_to_20 ≡ Some TooLong
unfolding decode_pairs header_bytes address_bytes entry_bytes network_bytes service_bytes name_field packet_of header_at address_at rip_of entry_at sap_of items sap_entry_at name_of network_at
too_long_for_the_narrow = refl

-- but not for network 10h, though they came from network 20h
pub not_for_the_wide : sent_on 1 long_to_10
    ≡ out 0 (node 0xCC) (hex (codes "FFFF02410100000000100000000000CC4003000000200000000000BB4003") ++ replicate 547 0)
    ∷ []
unfolding decode_pairs header_bytes address_bytes entry_bytes network_bytes service_bytes name_field packet_of header_at address_at rip_of entry_at sap_of items sap_entry_at name_of network_at
not_for_the_wide = refl

-- so it is with what is for all networks: it is no reason to drop it, and no port is left for it
pub none_is_left : dropped_on 0 long_to_all_from_10 ≡ None
unfolding decode_pairs header_bytes address_bytes entry_bytes network_bytes service_bytes name_field packet_of header_at address_at rip_of entry_at sap_of items sap_entry_at name_of network_at
none_is_left = refl

pub nothing_leaves_on_the_narrow : sent_on 0 long_to_all_from_10 ≡ []
unfolding decode_pairs header_bytes address_bytes entry_bytes network_bytes service_bytes name_field packet_of header_at address_at rip_of entry_at sap_of items sap_entry_at name_of network_at
nothing_leaves_on_the_narrow = refl

pub it_leaves_on_the_wide : sent_on 1 long_to_all_from_20
    ≡ out 0 all_nodes (hex (codes "FFFF0241011400000010FFFFFFFFFFFF0455000000200000000000BB045500000020") ++ replicate 543 0)
    ∷ []
unfolding decode_pairs header_bytes address_bytes entry_bytes network_bytes service_bytes name_field packet_of header_at address_at rip_of entry_at sap_of items sap_entry_at name_of network_at
it_leaves_on_the_wide = refl
