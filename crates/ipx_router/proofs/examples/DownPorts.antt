-- Packets while a port is down: those that come on it, and those that would leave by it.
use Rattle.std.proofs.Common.{◌≡◌, ℕ, List, [], ◌∷◌, ◌++◌, refl, codes, replicate, Some}
use Rattle.hex.specs.Hex.{decode_pairs}
use Rattle.ipx_wire.specs.Address.{address_bytes, address_at}
use Rattle.ipx_wire.specs.Crossed.{network_bytes, network_at}
use Rattle.ipx_wire.specs.Header.{header_bytes, header_at}
use Rattle.ipx_wire.specs.Items.{items}
use Rattle.ipx_wire.specs.Name.{name_of, name_field}
use Rattle.ipx_wire.specs.Packet.{packet_of}
use Rattle.ipx_wire.specs.Rip.{rip_of, entry_at, entry_bytes}
use Rattle.ipx_wire.specs.Sap.{sap_of}
use Rattle.ipx_wire.specs.SapEntries.{sap_entry_at}
use Rattle.ipx_wire.specs.WriteServices.{service_bytes}
use Rattle.ipx_wire.specs.declared.packet.PacketFault.TheVariants.{Short}
use Rattle.ipx_router.specs.Facts.{routes_held}
use Rattle.ipx_router.specs.History.{History, Stop, Packet, PortDown}
use Rattle.ipx_router.specs.declared.why.Why.TheVariants.{NotRunning, Malformed, OwnEcho, CrossedFull, FarSide, NoRoute, TooLong, DownPort}
use Rattle.ipx_router.proofs.examples.Words.{hex, two_ports, sent_by, sent_by_three, dropped_by, out, all_nodes, general_request, response, heard_of_30}

-- network 20h is reached by port 1, which is down
abbrev half : History
half = heard_of_30 ++ PortDown 1 ∷ []

-- node BBh on network 20h asks for all routes
abbrev by_b : List ℕ
by_b = hex (codes "FFFF0028000100000020FFFFFFFFFFFF0453000000200000000000BB0453" ++ codes "0001FFFFFFFFFFFFFFFF")

-- from node BBh on network 20h to node AAh on network 10h
abbrev to_10 : List ℕ
to_10 = hex (codes "FFFF001E0000000000100000000000AA4003000000200000000000BB4003")

-- to network 99h
abbrev to_99 : List ℕ
to_99 = hex (codes "FFFF001E0000000000990000000000CC4003000000200000000000BB4003")

-- 577 bytes to network 10h
abbrev long_to_10 : List ℕ
long_to_10 = hex (codes "FFFF02410000000000100000000000AA4003000000200000000000BB4003") ++ replicate 547 0

-- from port 1 itself
abbrev from_itself : List ℕ
from_itself = hex (codes "FFFF0028000100000020FFFFFFFFFFFF0453000000200000000000020453" ++ codes "00020000003000010002")

-- from node BBh on network 20h to all networks
abbrev to_all_from_b : List ℕ
to_all_from_b = hex (codes "FFFF003E001400000020FFFFFFFFFFFF0455000000200000000000BB0455") ++ replicate 32 0

-- it has crossed eight
abbrev crossed_eight : List ℕ
crossed_eight = hex (codes "FFFF003E081400000020FFFFFFFFFFFF0455000000200000000000BB0455") ++ replicate 32 0

-- from node AAh on network 10h to node CCh on network 20h
abbrev to_c : List ℕ
to_c = hex (codes "FFFF001E0000000000200000000000CC4003000000100000000000AA4003")

-- to node 2 on network 20h, which is port 1
abbrev to_the_port : List ℕ
to_the_port = hex (codes "FFFF001E0000000000200000000000024003000000100000000000AA4003")

-- from node AAh on network 10h to all networks
abbrev to_all : List ℕ
to_all = hex (codes "FFFF003E001400000010FFFFFFFFFFFF0455000000100000000000AA0455") ++ replicate 32 0

-- node AAh on network 10h tells the network of port 1, and network 77h
abbrev of_the_port : List ℕ
of_the_port = hex (codes "FFFF0030000100000010FFFFFFFFFFFF0453000000100000000000AA0453" ++ codes "000200000020000100010000007700010002")

-- what comes on a down port is dropped
pub a_response : dropped_by half 1 response ≡ Some DownPort
unfolding decode_pairs header_bytes address_bytes entry_bytes network_bytes service_bytes name_field packet_of header_at address_at rip_of entry_at sap_of items sap_entry_at name_of network_at
a_response = refl

-- also a request
pub a_request : dropped_by half 1 by_b ≡ Some DownPort
unfolding decode_pairs header_bytes address_bytes entry_bytes network_bytes service_bytes name_field packet_of header_at address_at rip_of entry_at sap_of items sap_entry_at name_of network_at
a_request = refl

-- also what is for a port that is up
pub for_a_port_that_is_up : dropped_by half 1 to_10 ≡ Some DownPort
unfolding decode_pairs header_bytes address_bytes entry_bytes network_bytes service_bytes name_field packet_of header_at address_at rip_of entry_at sap_of items sap_entry_at name_of network_at
for_a_port_that_is_up = refl

-- and what is for all networks
pub for_all_networks : dropped_by half 1 to_all_from_b ≡ Some DownPort
unfolding decode_pairs header_bytes address_bytes entry_bytes network_bytes service_bytes name_field packet_of header_at address_at rip_of entry_at sap_of items sap_entry_at name_of network_at
for_all_networks = refl

-- any other reason comes before: bytes that are no packet
pub no_packet : dropped_by half 1 [] ≡ Some (Malformed Short)
unfolding decode_pairs header_bytes address_bytes entry_bytes network_bytes service_bytes name_field packet_of header_at address_at rip_of entry_at sap_of items sap_entry_at name_of network_at
no_packet = refl

-- an echo of the port itself
pub its_own : dropped_by half 1 from_itself ≡ Some OwnEcho
unfolding decode_pairs header_bytes address_bytes entry_bytes network_bytes service_bytes name_field packet_of header_at address_at rip_of entry_at sap_of items sap_entry_at name_of network_at
its_own = refl

-- a packet that has crossed eight networks
pub crossed_eight_before : dropped_by half 1 crossed_eight ≡ Some CrossedFull
unfolding decode_pairs header_bytes address_bytes entry_bytes network_bytes service_bytes name_field packet_of header_at address_at rip_of entry_at sap_of items sap_entry_at name_of network_at
crossed_eight_before = refl

-- a packet without a way
pub no_way : dropped_by half 1 to_99 ≡ Some NoRoute
unfolding decode_pairs header_bytes address_bytes entry_bytes network_bytes service_bytes name_field packet_of header_at address_at rip_of entry_at sap_of items sap_entry_at name_of network_at
no_way = refl

-- one that is too long
pub too_long : dropped_by half 1 long_to_10 ≡ Some TooLong
unfolding decode_pairs header_bytes address_bytes entry_bytes network_bytes service_bytes name_field packet_of header_at address_at rip_of entry_at sap_of items sap_entry_at name_of network_at
too_long = refl

-- and a router that is stopped
pub stopped : dropped_by (half ++ Stop ∷ []) 1 response ≡ Some NotRunning
unfolding decode_pairs header_bytes address_bytes entry_bytes network_bytes service_bytes name_field packet_of header_at address_at rip_of entry_at sap_of items sap_entry_at name_of network_at
stopped = refl

-- nothing is learned from it
pub nothing_is_learned : routes_held two_ports 256 (half ++ Packet 1 response ∷ []) ≡ []
unfolding decode_pairs header_bytes address_bytes entry_bytes network_bytes service_bytes name_field packet_of header_at address_at rip_of entry_at sap_of items sap_entry_at name_of network_at
nothing_is_learned = refl

-- the network of a down port isn't reached
pub its_network_isnt_reached : dropped_by half 0 to_c ≡ Some NoRoute
unfolding decode_pairs header_bytes address_bytes entry_bytes network_bytes service_bytes name_field packet_of header_at address_at rip_of entry_at sap_of items sap_entry_at name_of network_at
its_network_isnt_reached = refl

-- but the port is still the router's own
pub it_is_still_its_own : dropped_by half 0 to_the_port ≡ Some FarSide
unfolding decode_pairs header_bytes address_bytes entry_bytes network_bytes service_bytes name_field packet_of header_at address_at rip_of entry_at sap_of items sap_entry_at name_of network_at
it_is_still_its_own = refl

-- an asker isn't told of it
pub it_isnt_told : sent_by half (Packet 0 general_request) ≡ []
unfolding decode_pairs header_bytes address_bytes entry_bytes network_bytes service_bytes name_field packet_of header_at address_at rip_of entry_at sap_of items sap_entry_at name_of network_at
it_isnt_told = refl

-- a packet for all networks doesn't leave by it
pub it_isnt_crossed : sent_by half (Packet 0 to_all) ≡ []
unfolding decode_pairs header_bytes address_bytes entry_bytes network_bytes service_bytes name_field packet_of header_at address_at rip_of entry_at sap_of items sap_entry_at name_of network_at
it_isnt_crossed = refl

-- only by the ports that are up
pub only_by_those_up : sent_by_three half (Packet 0 to_all)
    ≡ out 2 all_nodes (hex (codes "FFFF003E011400000040FFFFFFFFFFFF0455000000100000000000AA0455" ++ codes "00000010") ++ replicate 28 0)
    ∷ []
unfolding decode_pairs header_bytes address_bytes entry_bytes network_bytes service_bytes name_field packet_of header_at address_at rip_of entry_at sap_of items sap_entry_at name_of network_at
only_by_those_up = refl

-- offers for its network are still skipped, and news isn't told on it
pub its_network_is_skipped : sent_by_three half (Packet 0 of_the_port)
    ≡ out 2 all_nodes (hex (codes "FFFF0028000100000040FFFFFFFFFFFF0453000000400000000000040453" ++ codes "00020000007700020003"))
    ∷ []
unfolding decode_pairs header_bytes address_bytes entry_bytes network_bytes service_bytes name_field packet_of header_at address_at rip_of entry_at sap_of items sap_entry_at name_of network_at
its_network_is_skipped = refl

-- so its network stays out of reach
pub still_out_of_reach : dropped_by (half ++ Packet 0 of_the_port ∷ []) 0 to_c ≡ Some NoRoute
unfolding decode_pairs header_bytes address_bytes entry_bytes network_bytes service_bytes name_field packet_of header_at address_at rip_of entry_at sap_of items sap_entry_at name_of network_at
still_out_of_reach = refl
