-- A packet that meets two reasons or more to be dropped is dropped for the first of them.
use Rattle.std.proofs.Common.{◌≡◌, [], ◌∷◌, ◌++◌, refl, codes, replicate, Some}
use Rattle.hex.specs.Hex.{decode_pairs}
use Rattle.ipx_wire.specs.Address.{address_bytes, address_at}
use Rattle.ipx_wire.specs.Crossed.{network_bytes, network_at}
use Rattle.ipx_wire.specs.Header.{header_bytes, header_at}
use Rattle.ipx_wire.specs.Items.{items}
use Rattle.ipx_wire.specs.Name.{name_of, name_field}
use Rattle.ipx_wire.specs.Packet.{packet_of}
use Rattle.ipx_wire.specs.Rip.{rip_of, entry_at, entry_bytes}
use Rattle.ipx_wire.specs.Sap.{sap_of}
use Rattle.ipx_wire.specs.SapEntries.{sap_entry_at}
use Rattle.ipx_wire.specs.WriteServices.{service_bytes}
use Rattle.ipx_router.specs.History.{Start}
use Rattle.ipx_router.proofs.examples.Words.{hex, dropped_by}
use Rattle.ipx_router.specs.declared.why.Why.TheVariants.{NotRunning, OwnEcho, BadSource, CrossedShort, CrossedFull, NotNeighbour, TooManyRouters, FarSide}

-- of a stopped router also what is no packet
pub a_stopped_router_reads_nothing : dropped_by [] 0 (replicate 29 0) ≡ Some NotRunning
unfolding decode_pairs header_bytes address_bytes entry_bytes network_bytes service_bytes name_field packet_of header_at address_at rip_of entry_at sap_of items sap_entry_at name_of network_at
a_stopped_router_reads_nothing = refl

-- its own packet, with no list and nothing left to cross
pub own_echo_before_the_list : dropped_by (Start ∷ []) 0 (hex (codes "FFFF003D081400000010FFFFFFFFFFFF0455000000100000000000" ++ codes "010455") ++ replicate 31 0) ≡ Some OwnEcho
unfolding decode_pairs header_bytes address_bytes entry_bytes network_bytes service_bytes name_field packet_of header_at address_at rip_of entry_at sap_of items sap_entry_at name_of network_at
own_echo_before_the_list = refl

-- from the broadcast, with no list and nothing left to cross
pub bad_source_before_the_list : dropped_by (Start ∷ []) 0 (hex (codes "FFFF003D081400000010FFFFFFFFFFFF045500000010FFFFFFFFFF" ++ codes "FF0455") ++ replicate 31 0) ≡ Some BadSource
unfolding decode_pairs header_bytes address_bytes entry_bytes network_bytes service_bytes name_field packet_of header_at address_at rip_of entry_at sap_of items sap_entry_at name_of network_at
bad_source_before_the_list = refl

-- its own packet, for another node
pub own_echo_before_elsewhere : dropped_by (Start ∷ []) 0 (hex (codes "FFFF001E0000000000100000000000CC4003000000100000000000" ++ codes "014003")) ≡ Some OwnEcho
unfolding decode_pairs header_bytes address_bytes entry_bytes network_bytes service_bytes name_field packet_of header_at address_at rip_of entry_at sap_of items sap_entry_at name_of network_at
own_echo_before_elsewhere = refl

-- from the broadcast, for another node
pub bad_source_before_elsewhere : dropped_by (Start ∷ []) 0 (hex (codes "FFFF001E0000000000100000000000CC400300000010FFFFFFFFFF" ++ codes "FF4003")) ≡ Some BadSource
unfolding decode_pairs header_bytes address_bytes entry_bytes network_bytes service_bytes name_field packet_of header_at address_at rip_of entry_at sap_of items sap_entry_at name_of network_at
bad_source_before_elsewhere = refl

-- its own packet, through sixteen routers to where no route leads
pub own_echo_before_far : dropped_by (Start ∷ []) 0 (hex (codes "FFFF001E1000000000990000000000CC4003000000100000000000" ++ codes "014003")) ≡ Some OwnEcho
unfolding decode_pairs header_bytes address_bytes entry_bytes network_bytes service_bytes name_field packet_of header_at address_at rip_of entry_at sap_of items sap_entry_at name_of network_at
own_echo_before_far = refl

-- from the broadcast, through sixteen routers to where no route leads
pub bad_source_before_far : dropped_by (Start ∷ []) 0 (hex (codes "FFFF001E1000000000990000000000CC400300000010FFFFFFFFFF" ++ codes "FF4003")) ≡ Some BadSource
unfolding decode_pairs header_bytes address_bytes entry_bytes network_bytes service_bytes name_field packet_of header_at address_at rip_of entry_at sap_of items sap_entry_at name_of network_at
bad_source_before_far = refl

-- the list is too short, and names the port's network
pub short_before_seen : dropped_by (Start ∷ []) 0 (hex (codes "FFFF003D011400000010FFFFFFFFFFFF0455000000100000000000" ++ codes "AA045500000010") ++ replicate 27 0) ≡ Some CrossedShort
unfolding decode_pairs header_bytes address_bytes entry_bytes network_bytes service_bytes name_field packet_of header_at address_at rip_of entry_at sap_of items sap_entry_at name_of network_at
short_before_seen = refl

-- the list is full, and names the port's network
pub full_before_seen : dropped_by (Start ∷ []) 0 (hex (codes "FFFF003E081400000010FFFFFFFFFFFF0455000000100000000000" ++ codes "AA045500000010") ++ replicate 28 0) ≡ Some CrossedFull
unfolding decode_pairs header_bytes address_bytes entry_bytes network_bytes service_bytes name_field packet_of header_at address_at rip_of entry_at sap_of items sap_entry_at name_of network_at
full_before_seen = refl

-- from another network, and no routing information
pub not_neighbour_before_routing : dropped_by (Start ∷ []) 0 (hex (codes "FFFF0020000100000010FFFFFFFFFFFF0453000000990000000000" ++ codes "AA04530003")) ≡ Some NotNeighbour
unfolding decode_pairs header_bytes address_bytes entry_bytes network_bytes service_bytes name_field packet_of header_at address_at rip_of entry_at sap_of items sap_entry_at name_of network_at
not_neighbour_before_routing = refl

-- from another network, and no service advertising
pub not_neighbour_before_services : dropped_by (Start ∷ []) 0 (hex (codes "FFFF0020000400000010FFFFFFFFFFFF0452000000990000000000" ++ codes "AA04520005")) ≡ Some NotNeighbour
unfolding decode_pairs header_bytes address_bytes entry_bytes network_bytes service_bytes name_field packet_of header_at address_at rip_of entry_at sap_of items sap_entry_at name_of network_at
not_neighbour_before_services = refl

-- through sixteen routers, and too long to leave
pub too_many_routers_before_its_length : dropped_by (Start ∷ []) 0 (hex (codes "FFFF02411000000000200000000000CC4003000000100000000000" ++ codes "AA4003") ++ replicate 547 0) ≡ Some TooManyRouters
unfolding decode_pairs header_bytes address_bytes entry_bytes network_bytes service_bytes name_field packet_of header_at address_at rip_of entry_at sap_of items sap_entry_at name_of network_at
too_many_routers_before_its_length = refl

-- for the other port's node, and too long to leave
pub far_side_before_its_length : dropped_by (Start ∷ []) 0 (hex (codes "FFFF02410000000000200000000000024003000000100000000000" ++ codes "AA4003") ++ replicate 547 0) ≡ Some FarSide
unfolding decode_pairs header_bytes address_bytes entry_bytes network_bytes service_bytes name_field packet_of header_at address_at rip_of entry_at sap_of items sap_entry_at name_of network_at
far_side_before_its_length = refl
