-- Worked examples: lists cut into packets, and how many packets an event can send, and how long.
use Rattle.std.proofs.Common.{◌≡◌, ℕ, [], ◌∷◌, ◌++◌, refl, replicate}
use Rattle.ipx_wire.specs.Address.{address_at}
use Rattle.ipx_wire.specs.Header.{header_at}
use Rattle.ipx_wire.specs.Packet.{packet_of}
use Rattle.ipx_router.specs.Bounds.{most_packets, most_length}
use Rattle.ipx_router.specs.History.{Start, Stop, Second, Packet, PortDown, PortUp}
use Rattle.ipx_router.specs.Needs.{packets_ever, bytes_ever}
use Rattle.ipx_router.specs.Pages.{pages}

-- pages of fifty, the last one shorter, and none of nothing
pub two_pages : pages {X = ℕ} 50 (replicate 51 7) ≡ replicate 50 7 ∷ (7 ∷ []) ∷ []
two_pages = refl

pub one_page : pages {X = ℕ} 50 (replicate 50 7) ≡ replicate 50 7 ∷ []
one_page = refl

pub no_page : pages {X = ℕ} 50 (replicate 0 7) ≡ []
no_page = refl

-- two ports: six packets at a start
pub most_of_a_start : most_packets 2 0 0 Start ≡ 6
most_of_a_start = refl

-- two for a packet with 61 routes and 7 services held, and three with 100 routes
pub most_of_a_packet : most_packets 2 61 7 (Packet 0 []) ≡ 2
most_of_a_packet = refl

pub most_of_a_long_answer : most_packets 2 100 0 (Packet 0 []) ≡ 3
most_of_a_long_answer = refl

-- three on each port for a second or a stop with 61 routes and 7 services held
pub most_of_a_second : most_packets 2 61 7 Second ≡ 6
most_of_a_second = refl

pub most_of_a_stop : most_packets 2 61 7 Stop ≡ 6
most_of_a_stop = refl

-- 480 bytes, whatever came, unless a longer packet did
pub longest_of_no_packet : most_length (Packet 0 (replicate 600 0)) ≡ 480
unfolding packet_of header_at address_at
longest_of_no_packet = refl

pub longest_of_a_long_packet : most_length (Packet 0 (replicate 2 255 ++ 2 ∷ 88 ∷ [] ++ replicate 600 0)) ≡ 600
unfolding packet_of header_at address_at
longest_of_a_long_packet = refl

-- each of two ports tells the other's network too: with 49 routes one full packet a port
pub most_with_49_routes : most_packets 2 49 0 Second ≡ 2
most_with_49_routes = refl

pub most_of_a_stop_with_49_routes : most_packets 2 49 0 Stop ≡ 2
most_of_a_stop_with_49_routes = refl

-- and a second one with 50
pub most_with_50_routes : most_packets 2 50 0 Second ≡ 4
most_with_50_routes = refl

pub most_of_a_stop_with_50_routes : most_packets 2 50 0 Stop ≡ 4
most_of_a_stop_with_50_routes = refl

-- seven services fill a packet
pub most_with_7_services : most_packets 2 49 7 Second ≡ 4
most_with_7_services = refl

-- and the eighth begins another
pub most_with_8_services : most_packets 2 49 8 Second ≡ 6
most_with_8_services = refl

-- where nothing is held, three ports tell of a packet at most once each
pub most_of_a_packet_to_three : most_packets 3 0 0 (Packet 0 []) ≡ 3
most_of_a_packet_to_three = refl

-- a single port has no other network to answer with: 50 routes fill one packet, the 51st begins another
pub most_of_a_full_answer : most_packets 1 50 0 (Packet 0 []) ≡ 1
most_of_a_full_answer = refl

pub most_of_more_than_one_answer : most_packets 1 51 0 (Packet 0 []) ≡ 2
most_of_more_than_one_answer = refl

-- 128 services are 18 full packets and two services more
pub most_of_a_query : most_packets 2 0 128 (Packet 0 []) ≡ 19
most_of_a_query = refl

-- a start of three ports: three packets on each
pub most_of_a_start_of_three : most_packets 3 100 100 Start ≡ 9
most_of_a_start_of_three = refl

-- a port that goes down: on each other port what a second may tell
pub most_of_a_port_down : most_packets 3 61 7 (PortDown 0) ≡ 6
most_of_a_port_down = refl

-- its own network is among 50 entries with 49 routes, and makes a second packet with 50
pub most_of_a_port_down_with_49_routes : most_packets 2 49 0 (PortDown 0) ≡ 1
most_of_a_port_down_with_49_routes = refl

pub most_of_a_port_down_with_50_routes : most_packets 2 50 0 (PortDown 0) ≡ 2
most_of_a_port_down_with_50_routes = refl

-- a single port goes down unheard
pub none_of_the_only_port_down : most_packets 1 61 7 (PortDown 0) ≡ 0
none_of_the_only_port_down = refl

-- a port that comes up: one packet on each other port, and on its own the request, the query, and all that is told
pub most_of_a_port_up : most_packets 2 0 0 (PortUp 1) ≡ 4
most_of_a_port_up = refl

pub most_of_a_port_up_of_three : most_packets 3 61 8 (PortUp 1) ≡ 8
most_of_a_port_up_of_three = refl

-- a single port asks twice
pub two_of_the_only_port_up : most_packets 1 0 0 (PortUp 0) ≡ 2
two_of_the_only_port_up = refl

-- none of these packets is longer than seven services
pub longest_of_a_port_down : most_length (PortDown 0) ≡ 480
longest_of_a_port_down = refl

pub longest_of_a_port_up : most_length (PortUp 0) ≡ 480
longest_of_a_port_up = refl

-- enough for every event of two ports with 256 routes and 128 services at most: 25 packets on each port for a second
pub packets_of_any_event : packets_ever 2 256 128 ≡ 50
packets_of_any_event = refl

-- and 19 long ones, since a query may be answered with 19 packets
pub bytes_of_any_event : bytes_ever 2 256 128 1500 ≡ 28500
bytes_of_any_event = refl

pub bytes_of_short_packets : bytes_ever 2 256 128 576 ≡ 24000
bytes_of_short_packets = refl

-- a port alone needs most where it comes up, and two ports with small tables where they start
pub packets_of_one_port : packets_ever 1 50 7 ≡ 4
packets_of_one_port = refl

pub packets_of_two_ports : packets_ever 2 40 7 ≡ 6
packets_of_two_ports = refl
