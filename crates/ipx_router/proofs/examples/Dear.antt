-- A port of the highest cost: ticks end at 65535.
use Rattle.std.proofs.Common.{◌≡◌, List, [], ◌∷◌, ◌++◌, refl, codes}
use Rattle.hex.specs.Hex.{decode_pairs}
use Rattle.ipx_wire.specs.Address.{address_bytes, address_at}
use Rattle.ipx_wire.specs.Crossed.{network_bytes, network_at}
use Rattle.ipx_wire.specs.Header.{header_bytes, header_at}
use Rattle.ipx_wire.specs.Items.{items}
use Rattle.ipx_wire.specs.Name.{name_of, name_field}
use Rattle.ipx_wire.specs.Packet.{packet_of}
use Rattle.ipx_wire.specs.Rip.{rip_of, entry_at, entry_bytes}
use Rattle.ipx_wire.specs.Sap.{sap_of}
use Rattle.ipx_wire.specs.SapEntries.{sap_entry_at}
use Rattle.ipx_wire.specs.WriteServices.{service_bytes}
use Rattle.ipx_router.specs.History.{Start, Packet}
use Rattle.ipx_router.proofs.examples.Words.{hex, node, port_on, out, general_request}
use Rattle.ipx_router.specs.Port.{Port}
use Rattle.ipx_router.specs.Sends.{sends}

abbrev dear_ports : List Port
dear_ports = port_on 0x10 1 ∷ record (port_on 0x20 2) { cost = 65535 } ∷ []

-- its network costs as many ticks as there can be
pub at_most_65535 : sends dear_ports 256 128 (Start ∷ []) (Packet 0 general_request)
    ≡ out 0 (node 0xAA) (hex (codes "FFFF00280001000000100000000000AA045300000010000000000001" ++ codes "04530002000000200001FFFF"))
    ∷ []
unfolding decode_pairs header_bytes address_bytes entry_bytes network_bytes service_bytes name_field packet_of header_at address_at rip_of entry_at sap_of items sap_entry_at name_of network_at
at_most_65535 = refl
