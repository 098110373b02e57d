-- What becomes of each kind of event.
use Rattle.std.proofs.Common.{◌≡◌, ℕ, List, [], ◌∷◌, ◌++◌, refl, codes, replicate}
use Rattle.hex.specs.Hex.{decode_pairs}
use Rattle.ipx_wire.specs.Address.{address_bytes, address_at}
use Rattle.ipx_wire.specs.Crossed.{network_bytes, network_at}
use Rattle.ipx_wire.specs.Header.{header_bytes, header_at}
use Rattle.ipx_wire.specs.Items.{items}
use Rattle.ipx_wire.specs.Name.{name_of, name_field}
use Rattle.ipx_wire.specs.Packet.{packet_of}
use Rattle.ipx_wire.specs.Rip.{rip_of, entry_at, entry_bytes}
use Rattle.ipx_wire.specs.Sap.{sap_of}
use Rattle.ipx_wire.specs.SapEntries.{sap_entry_at}
use Rattle.ipx_wire.specs.WriteServices.{service_bytes}
use Rattle.ipx_router.specs.History.{Start, Stop, Second, Packet, PortDown, PortUp}
use Rattle.ipx_router.proofs.examples.Words.{hex, two_ports, general_request, response, heard_of_30}
use Rattle.ipx_router.specs.Outcomes.{outcome}
use Rattle.ipx_router.specs.declared.outcome.Outcome.TheVariants.{Started, AlreadyRunning, Stopped, Ticked, Learned, Answered, Forwarded, Propagated, WentDown, CameUp, AlreadyDown, AlreadyUp, Dropped}
use Rattle.ipx_router.specs.declared.why.Why.TheVariants.{NotRunning, NoRoute, DownPort}

-- from node AAh on network 10h to node CCh on network 20h
abbrev to_c : List ℕ
to_c = (hex (codes "FFFF001E0000000000200000000000CC4003000000100000000000AA" ++ codes "4003"))

-- to node CCh on network 30h
abbrev beyond : List ℕ
beyond = (hex (codes "FFFF001E0000000000300000000000CC4003000000100000000000AA" ++ codes "4003"))

-- to all networks; it has crossed network 20h, so nothing leaves
abbrev to_all : List ℕ
to_all = (hex (codes "FFFF003E011400000010FFFFFFFFFFFF0455000000100000000000AA" ++ codes "045500000020") ++ replicate 27 0 ++ hex (codes "00"))

-- a query for all services, of which there are none
abbrev query : List ℕ
query = (hex (codes "FFFF0022000400000010FFFFFFFFFFFF0452000000100000000000AA" ++ codes "40030001FFFF"))

-- a response of services
abbrev services : List ℕ
services = (hex (codes "FFFF0060000400000020FFFFFFFFFFFF0452000000200000000000BB" ++ codes "04520002000441") ++ replicate 50 0 ++ hex (codes "3000000000000104510001"))

-- a stopped router starts
pub starts : outcome two_ports 256 [] Start ≡ Started
unfolding decode_pairs header_bytes address_bytes entry_bytes network_bytes service_bytes name_field packet_of header_at address_at rip_of entry_at sap_of items sap_entry_at name_of network_at
starts = refl

-- a running one runs
pub runs_already : outcome two_ports 256 (Start ∷ []) Start ≡ AlreadyRunning
unfolding decode_pairs header_bytes address_bytes entry_bytes network_bytes service_bytes name_field packet_of header_at address_at rip_of entry_at sap_of items sap_entry_at name_of network_at
runs_already = refl

-- it stops
pub stops : outcome two_ports 256 (Start ∷ []) Stop ≡ Stopped
unfolding decode_pairs header_bytes address_bytes entry_bytes network_bytes service_bytes name_field packet_of header_at address_at rip_of entry_at sap_of items sap_entry_at name_of network_at
stops = refl

-- and is stopped then
pub is_stopped : outcome two_ports 256 (Start ∷ Stop ∷ []) Stop ≡ Dropped NotRunning
unfolding decode_pairs header_bytes address_bytes entry_bytes network_bytes service_bytes name_field packet_of header_at address_at rip_of entry_at sap_of items sap_entry_at name_of network_at
is_stopped = refl

-- a second passes
pub ticks : outcome two_ports 256 (Start ∷ []) Second ≡ Ticked
unfolding decode_pairs header_bytes address_bytes entry_bytes network_bytes service_bytes name_field packet_of header_at address_at rip_of entry_at sap_of items sap_entry_at name_of network_at
ticks = refl

-- but not for a stopped router
pub no_second : outcome two_ports 256 [] Second ≡ Dropped NotRunning
unfolding decode_pairs header_bytes address_bytes entry_bytes network_bytes service_bytes name_field packet_of header_at address_at rip_of entry_at sap_of items sap_entry_at name_of network_at
no_second = refl

-- a response is learned from
pub learns : outcome two_ports 256 (Start ∷ []) (Packet 1 response) ≡ Learned
unfolding decode_pairs header_bytes address_bytes entry_bytes network_bytes service_bytes name_field packet_of header_at address_at rip_of entry_at sap_of items sap_entry_at name_of network_at
learns = refl

-- a request is answered
pub answers : outcome two_ports 256 (Start ∷ []) (Packet 0 general_request) ≡ Answered
unfolding decode_pairs header_bytes address_bytes entry_bytes network_bytes service_bytes name_field packet_of header_at address_at rip_of entry_at sap_of items sap_entry_at name_of network_at
answers = refl

-- so are services learned
pub learns_services : outcome two_ports 256 (Start ∷ []) (Packet 1 services) ≡ Learned
unfolding decode_pairs header_bytes address_bytes entry_bytes network_bytes service_bytes name_field packet_of header_at address_at rip_of entry_at sap_of items sap_entry_at name_of network_at
learns_services = refl

-- and a query is answered, also where nothing is sent
pub answers_with_nothing : outcome two_ports 256 (Start ∷ []) (Packet 0 query) ≡ Answered
unfolding decode_pairs header_bytes address_bytes entry_bytes network_bytes service_bytes name_field packet_of header_at address_at rip_of entry_at sap_of items sap_entry_at name_of network_at
answers_with_nothing = refl

-- a packet is forwarded
pub forwards : outcome two_ports 256 (Start ∷ []) (Packet 0 to_c) ≡ Forwarded
unfolding decode_pairs header_bytes address_bytes entry_bytes network_bytes service_bytes name_field packet_of header_at address_at rip_of entry_at sap_of items sap_entry_at name_of network_at
forwards = refl

-- if there is a way
pub knows_no_way : outcome two_ports 256 (Start ∷ []) (Packet 0 beyond) ≡ Dropped NoRoute
unfolding decode_pairs header_bytes address_bytes entry_bytes network_bytes service_bytes name_field packet_of header_at address_at rip_of entry_at sap_of items sap_entry_at name_of network_at
knows_no_way = refl

-- as there is once it was told
pub knows_the_way : outcome two_ports 256 heard_of_30 (Packet 0 beyond) ≡ Forwarded
unfolding decode_pairs header_bytes address_bytes entry_bytes network_bytes service_bytes name_field packet_of header_at address_at rip_of entry_at sap_of items sap_entry_at name_of network_at
knows_the_way = refl

-- and one is propagated, also where no port is left for it
pub propagates : outcome two_ports 256 (Start ∷ []) (Packet 0 to_all) ≡ Propagated
unfolding decode_pairs header_bytes address_bytes entry_bytes network_bytes service_bytes name_field packet_of header_at address_at rip_of entry_at sap_of items sap_entry_at name_of network_at
propagates = refl

-- a port goes down
pub goes_down : outcome two_ports 256 (Start ∷ []) (PortDown 1) ≡ WentDown
goes_down = refl

-- and is down then
pub is_down : outcome two_ports 256 (Start ∷ PortDown 1 ∷ []) (PortDown 1) ≡ AlreadyDown
is_down = refl

-- the other one is up
pub the_other_goes_down : outcome two_ports 256 (Start ∷ PortDown 1 ∷ []) (PortDown 0) ≡ WentDown
the_other_goes_down = refl

-- it comes up again
pub comes_up : outcome two_ports 256 (Start ∷ PortDown 1 ∷ []) (PortUp 1) ≡ CameUp
comes_up = refl

-- and is up then
pub is_up_again : outcome two_ports 256 (Start ∷ PortDown 1 ∷ PortUp 1 ∷ []) (PortUp 1) ≡ AlreadyUp
is_up_again = refl

-- as it is after a start
pub is_up : outcome two_ports 256 (Start ∷ []) (PortUp 1) ≡ AlreadyUp
is_up = refl

-- also after one that follows a stop
pub is_up_after_another_start : outcome two_ports 256 (Start ∷ PortDown 1 ∷ Stop ∷ Start ∷ []) (PortUp 1) ≡ AlreadyUp
is_up_after_another_start = refl

-- of a stopped router no port goes down
pub none_goes_down : outcome two_ports 256 (Start ∷ Stop ∷ []) (PortDown 0) ≡ Dropped NotRunning
none_goes_down = refl

-- and none comes up
pub none_comes_up : outcome two_ports 256 (Start ∷ PortDown 0 ∷ Stop ∷ []) (PortUp 0) ≡ Dropped NotRunning
none_comes_up = refl

-- what comes on a down port is dropped
pub comes_on_a_down_port : outcome two_ports 256 (Start ∷ PortDown 1 ∷ []) (Packet 1 response) ≡ Dropped DownPort
unfolding decode_pairs header_bytes address_bytes entry_bytes network_bytes service_bytes name_field packet_of header_at address_at rip_of entry_at sap_of items sap_entry_at name_of network_at
comes_on_a_down_port = refl

-- what is for all networks is propagated, also where the other port is down
pub propagates_to_none : outcome two_ports 256 (Start ∷ PortDown 1 ∷ []) (Packet 0 to_all) ≡ Propagated
unfolding decode_pairs header_bytes address_bytes entry_bytes network_bytes service_bytes name_field packet_of header_at address_at rip_of entry_at sap_of items sap_entry_at name_of network_at
propagates_to_none = refl
