-- Each reason for which a packet is dropped, met by a packet that meets it first.
use Rattle.std.proofs.Common.{◌≡◌, [], ◌∷◌, ◌++◌, refl, codes, replicate, None, Some}
use Rattle.hex.specs.Hex.{decode_pairs}
use Rattle.ipx_wire.specs.Address.{address_bytes, address_at}
use Rattle.ipx_wire.specs.Crossed.{network_bytes, network_at}
use Rattle.ipx_wire.specs.Header.{header_bytes, header_at}
use Rattle.ipx_wire.specs.Items.{items}
use Rattle.ipx_wire.specs.Name.{name_of, name_field}
use Rattle.ipx_wire.specs.Packet.{packet_of}
use Rattle.ipx_wire.specs.Rip.{rip_of, entry_at, entry_bytes}
use Rattle.ipx_wire.specs.Sap.{sap_of}
use Rattle.ipx_wire.specs.SapEntries.{sap_entry_at}
use Rattle.ipx_wire.specs.WriteServices.{service_bytes}
use Rattle.ipx_router.specs.History.{Start}
use Rattle.ipx_router.proofs.examples.Words.{hex, general_request, dropped_by}
use Rattle.ipx_wire.specs.declared.packet.PacketFault.TheVariants.{Short, LengthSmall, LengthBeyond}
use Rattle.ipx_wire.specs.declared.rip.RipFault.TheVariants.{Operation as RipOperation}
use Rattle.ipx_wire.specs.declared.sap.SapFault.TheVariants.{Operation as SapOperation}
use Rattle.ipx_router.specs.declared.why.Why.TheVariants.{NotRunning, Malformed, OwnEcho, BadSource, CrossedShort, CrossedFull, CrossedSeen, Elsewhere, OtherSocket, NotNeighbour, BadRip, BadSap, NearestReply, TooManyRouters, FarSide, NoRoute, TooLong}

-- the router is stopped
pub not_running : dropped_by [] 0 general_request ≡ Some NotRunning
unfolding decode_pairs header_bytes address_bytes entry_bytes network_bytes service_bytes name_field packet_of header_at address_at rip_of entry_at sap_of items sap_entry_at name_of network_at
not_running = refl

-- 29 bytes
pub short : dropped_by (Start ∷ []) 0 (replicate 29 0) ≡ Some (Malformed Short)
unfolding decode_pairs header_bytes address_bytes entry_bytes network_bytes service_bytes name_field packet_of header_at address_at rip_of entry_at sap_of items sap_entry_at name_of network_at
short = refl

-- none at all
pub no_bytes : dropped_by (Start ∷ []) 0 [] ≡ Some (Malformed Short)
unfolding decode_pairs header_bytes address_bytes entry_bytes network_bytes service_bytes name_field packet_of header_at address_at rip_of entry_at sap_of items sap_entry_at name_of network_at
no_bytes = refl

-- a length of 29
pub length_small : dropped_by (Start ∷ []) 0 (hex (codes "FFFF001D0001") ++ replicate 24 0) ≡ Some (Malformed LengthSmall)
unfolding decode_pairs header_bytes address_bytes entry_bytes network_bytes service_bytes name_field packet_of header_at address_at rip_of entry_at sap_of items sap_entry_at name_of network_at
length_small = refl

-- a length of 31 in 30 bytes
pub length_beyond : dropped_by (Start ∷ []) 0 (hex (codes "FFFF001F0001") ++ replicate 24 0) ≡ Some (Malformed LengthBeyond)
unfolding decode_pairs header_bytes address_bytes entry_bytes network_bytes service_bytes name_field packet_of header_at address_at rip_of entry_at sap_of items sap_entry_at name_of network_at
length_beyond = refl

-- from the port itself
pub own_echo : dropped_by (Start ∷ []) 0 (hex (codes "FFFF0028000100000010FFFFFFFFFFFF045300000010000000000001" ++ codes "045300020000003000010002")) ≡ Some OwnEcho
unfolding decode_pairs header_bytes address_bytes entry_bytes network_bytes service_bytes name_field packet_of header_at address_at rip_of entry_at sap_of items sap_entry_at name_of network_at
own_echo = refl

-- also where it calls its network 0
pub own_echo_local : dropped_by (Start ∷ []) 0 (hex (codes "FFFF0028000100000010FFFFFFFFFFFF045300000000000000000001" ++ codes "045300020000003000010002")) ≡ Some OwnEcho
unfolding decode_pairs header_bytes address_bytes entry_bytes network_bytes service_bytes name_field packet_of header_at address_at rip_of entry_at sap_of items sap_entry_at name_of network_at
own_echo_local = refl

-- from the broadcast
pub bad_source : dropped_by (Start ∷ []) 0 (hex (codes "FFFF0028000100000010FFFFFFFFFFFF045300000010FFFFFFFFFFFF" ++ codes "045300020000003000010002")) ≡ Some BadSource
unfolding decode_pairs header_bytes address_bytes entry_bytes network_bytes service_bytes name_field packet_of header_at address_at rip_of entry_at sap_of items sap_entry_at name_of network_at
bad_source = refl

-- for all networks, with 31 bytes of data; that eight were crossed comes after it
pub crossed_short : dropped_by (Start ∷ []) 0 (hex (codes "FFFF003D081400000010FFFFFFFFFFFF0455000000100000000000AA" ++ codes "0455") ++ replicate 31 0) ≡ Some CrossedShort
unfolding decode_pairs header_bytes address_bytes entry_bytes network_bytes service_bytes name_field packet_of header_at address_at rip_of entry_at sap_of items sap_entry_at name_of network_at
crossed_short = refl

-- eight networks were crossed
pub crossed_full : dropped_by (Start ∷ []) 0 (hex (codes "FFFF003E081400000010FFFFFFFFFFFF0455000000100000000000AA" ++ codes "0455") ++ replicate 32 0) ≡ Some CrossedFull
unfolding decode_pairs header_bytes address_bytes entry_bytes network_bytes service_bytes name_field packet_of header_at address_at rip_of entry_at sap_of items sap_entry_at name_of network_at
crossed_full = refl

-- or more than there are places
pub crossed_far_past : dropped_by (Start ∷ []) 0 (hex (codes "FFFF003EFF1400000010FFFFFFFFFFFF0455000000100000000000AA" ++ codes "0455") ++ replicate 32 0) ≡ Some CrossedFull
unfolding decode_pairs header_bytes address_bytes entry_bytes network_bytes service_bytes name_field packet_of header_at address_at rip_of entry_at sap_of items sap_entry_at name_of network_at
crossed_far_past = refl

-- the port's network is among those crossed
pub crossed_seen : dropped_by (Start ∷ []) 0 (hex (codes "FFFF003E011400000010FFFFFFFFFFFF0455000000100000000000AA" ++ codes "045500000010") ++ replicate 27 0 ++ hex (codes "00")) ≡ Some CrossedSeen
unfolding decode_pairs header_bytes address_bytes entry_bytes network_bytes service_bytes name_field packet_of header_at address_at rip_of entry_at sap_of items sap_entry_at name_of network_at
crossed_seen = refl

-- for network 0 and no node of it
pub elsewhere : dropped_by (Start ∷ []) 0 (hex (codes "FFFF001E0001") ++ replicate 24 0) ≡ Some Elsewhere
unfolding decode_pairs header_bytes address_bytes entry_bytes network_bytes service_bytes name_field packet_of header_at address_at rip_of entry_at sap_of items sap_entry_at name_of network_at
elsewhere = refl

-- for the port's network, and a socket without a process
pub other_socket : dropped_by (Start ∷ []) 0 (hex (codes "FFFF001E000000000010FFFFFFFFFFFF4003000000100000000000AA" ++ codes "4003")) ≡ Some OtherSocket
unfolding decode_pairs header_bytes address_bytes entry_bytes network_bytes service_bytes name_field packet_of header_at address_at rip_of entry_at sap_of items sap_entry_at name_of network_at
other_socket = refl

-- of type 20 to the port's node, for the routing process
pub type_20_to_a_node : dropped_by (Start ∷ []) 0 (hex (codes "FFFF00280014000000100000000000010453000000100000000000AA" ++ codes "045300020000003000010002")) ≡ Some OtherSocket
unfolding decode_pairs header_bytes address_bytes entry_bytes network_bytes service_bytes name_field packet_of header_at address_at rip_of entry_at sap_of items sap_entry_at name_of network_at
type_20_to_a_node = refl

-- from another network
pub not_neighbour : dropped_by (Start ∷ []) 0 (hex (codes "FFFF0028000100000010FFFFFFFFFFFF0453000000990000000000AA" ++ codes "045300020000003000010002")) ≡ Some NotNeighbour
unfolding decode_pairs header_bytes address_bytes entry_bytes network_bytes service_bytes name_field packet_of header_at address_at rip_of entry_at sap_of items sap_entry_at name_of network_at
not_neighbour = refl

-- with the port's own node, but from another network, it is no echo
pub own_node_elsewhere : dropped_by (Start ∷ []) 0 (hex (codes "FFFF0028000100000010FFFFFFFFFFFF045300000099000000000001" ++ codes "045300020000003000010002")) ≡ Some NotNeighbour
unfolding decode_pairs header_bytes address_bytes entry_bytes network_bytes service_bytes name_field packet_of header_at address_at rip_of entry_at sap_of items sap_entry_at name_of network_at
own_node_elsewhere = refl

-- for another node and another socket: the node is judged first
pub elsewhere_before_socket : dropped_by (Start ∷ []) 0 (hex (codes "FFFF001E0000000000100000000000CC4003000000990000000000AA" ++ codes "4003")) ≡ Some Elsewhere
unfolding decode_pairs header_bytes address_bytes entry_bytes network_bytes service_bytes name_field packet_of header_at address_at rip_of entry_at sap_of items sap_entry_at name_of network_at
elsewhere_before_socket = refl

-- operation 3
pub bad_rip : dropped_by (Start ∷ []) 0 (hex (codes "FFFF0020000100000010FFFFFFFFFFFF0453000000100000000000AA" ++ codes "04530003")) ≡ Some (BadRip (RipOperation 3))
unfolding decode_pairs header_bytes address_bytes entry_bytes network_bytes service_bytes name_field packet_of header_at address_at rip_of entry_at sap_of items sap_entry_at name_of network_at
bad_rip = refl

-- operation 5
pub bad_sap : dropped_by (Start ∷ []) 0 (hex (codes "FFFF0020000400000010FFFFFFFFFFFF0452000000100000000000AA" ++ codes "04520005")) ≡ Some (BadSap (SapOperation 5))
unfolding decode_pairs header_bytes address_bytes entry_bytes network_bytes service_bytes name_field packet_of header_at address_at rip_of entry_at sap_of items sap_entry_at name_of network_at
bad_sap = refl

-- an answer to a query for the nearest
pub nearest_reply : dropped_by (Start ∷ []) 0 (hex (codes "FFFF0060000400000010FFFFFFFFFFFF0452000000100000000000AA" ++ codes "04520004000441") ++ replicate 50 0 ++ hex (codes "3000000000000104510001")) ≡ Some NearestReply
unfolding decode_pairs header_bytes address_bytes entry_bytes network_bytes service_bytes name_field packet_of header_at address_at rip_of entry_at sap_of items sap_entry_at name_of network_at
nearest_reply = refl

-- through sixteen routers
pub too_many_routers : dropped_by (Start ∷ []) 0 (hex (codes "FFFF001E1000000000200000000000CC4003000000100000000000AA" ++ codes "4003")) ≡ Some TooManyRouters
unfolding decode_pairs header_bytes address_bytes entry_bytes network_bytes service_bytes name_field packet_of header_at address_at rip_of entry_at sap_of items sap_entry_at name_of network_at
too_many_routers = refl

-- for the node of the other port
pub far_side : dropped_by (Start ∷ []) 0 (hex (codes "FFFF001E0000000000200000000000024003000000100000000000AA" ++ codes "4003")) ≡ Some FarSide
unfolding decode_pairs header_bytes address_bytes entry_bytes network_bytes service_bytes name_field packet_of header_at address_at rip_of entry_at sap_of items sap_entry_at name_of network_at
far_side = refl

-- for a network that nobody told of
pub no_route : dropped_by (Start ∷ []) 0 (hex (codes "FFFF001E0000000000990000000000CC4003000000100000000000AA" ++ codes "4003")) ≡ Some NoRoute
unfolding decode_pairs header_bytes address_bytes entry_bytes network_bytes service_bytes name_field packet_of header_at address_at rip_of entry_at sap_of items sap_entry_at name_of network_at
no_route = refl

-- 577 bytes
pub too_long : dropped_by (Start ∷ []) 0 (hex (codes "FFFF02410000000000200000000000CC4003000000100000000000AA" ++ codes "4003") ++ replicate 547 0) ≡ Some TooLong
unfolding decode_pairs header_bytes address_bytes entry_bytes network_bytes service_bytes name_field packet_of header_at address_at rip_of entry_at sap_of items sap_entry_at name_of network_at
too_long = refl

-- and one that passes
pub passes : dropped_by (Start ∷ []) 0 (hex (codes "FFFF001E0000000000200000000000CC4003000000100000000000AA" ++ codes "4003")) ≡ None
unfolding decode_pairs header_bytes address_bytes entry_bytes network_bytes service_bytes name_field packet_of header_at address_at rip_of entry_at sap_of items sap_entry_at name_of network_at
passes = refl

-- a transport control of 5 and source network 0 are no reason
pub odd_control_and_network : dropped_by (Start ∷ []) 0 (hex (codes "FFFF0028050100000010FFFFFFFFFFFF0453000000000000000000AA" ++ codes "04530001FFFFFFFFFFFFFFFF")) ≡ None
unfolding decode_pairs header_bytes address_bytes entry_bytes network_bytes service_bytes name_field packet_of header_at address_at rip_of entry_at sap_of items sap_entry_at name_of network_at
odd_control_and_network = refl

-- for a socket without a process and from another network: the socket is judged first
pub socket_before_network : dropped_by (Start ∷ []) 0 (hex (codes "FFFF001E000000000010FFFFFFFFFFFF4003000000990000000000AA" ++ codes "4003")) ≡ Some OtherSocket
unfolding decode_pairs header_bytes address_bytes entry_bytes network_bytes service_bytes name_field packet_of header_at address_at rip_of entry_at sap_of items sap_entry_at name_of network_at
socket_before_network = refl

-- through sixteen routers to the node of the other port: the routers are judged first
pub too_many_before_far_side : dropped_by (Start ∷ []) 0 (hex (codes "FFFF001E1000000000200000000000024003000000100000000000AA" ++ codes "4003")) ≡ Some TooManyRouters
unfolding decode_pairs header_bytes address_bytes entry_bytes network_bytes service_bytes name_field packet_of header_at address_at rip_of entry_at sap_of items sap_entry_at name_of network_at
too_many_before_far_side = refl

-- through sixteen routers to a network that nobody told of
pub too_many_before_no_route : dropped_by (Start ∷ []) 0 (hex (codes "FFFF001E1000000000990000000000CC4003000000100000000000AA" ++ codes "4003")) ≡ Some TooManyRouters
unfolding decode_pairs header_bytes address_bytes entry_bytes network_bytes service_bytes name_field packet_of header_at address_at rip_of entry_at sap_of items sap_entry_at name_of network_at
too_many_before_no_route = refl
