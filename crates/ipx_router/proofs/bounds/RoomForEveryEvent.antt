-- The room that is enough for every event of a router whose tables are full at most.
use Rattle.std.proofs.Common.{◌≡◌, ℕ, ◌+◌, ◌*◌, ◌≤◌, max, List, [], length, IfOk, Result, Ok, Err, arith}
use Rattle.std.proofs.Math.Nat.{le_trans, le-max_left, le-max_right, mul-le-mul_left, mul-le-mul_right}
use Rattle.std.proofs.lemmas.Bool.{ltb-false}
use Rattle.std.proofs.lemmas.Nat.{mul-le}
use Rattle.ipx_wire.specs.Packet.{Parts, packet_of}
use Rattle.ipx_wire.specs.declared.packet.PacketFault.{PacketFault}
use Rattle.ipx_router.specs.Bounds.{most_packets, most_length, route_sheets, service_sheets, all_sheets}
use Rattle.ipx_router.specs.History.{Event, Start, Stop, Second, Packet, PortDown, PortUp}
use Rattle.ipx_router.specs.Needs.{HasRoomFor, IsUpTo, packets_ever, bytes_ever}
use Rattle.ipx_router.specs.Numbers.{most_own_length}
use Rattle.ipx_router.specs.Outbox.{Contents, HasRoom}
use Rattle.ipx_router.specs.Shares.{IsWithinCapacity}
use Rattle.ipx_router.specs.Stands.{State}
use Rattle.ipx_router.proofs.bounds.LengthOfWhatCame.{field_of_header}

-- as often as the greater of two
times_max : (n a b most : ℕ) → n * a ≤ most → n * b ≤ most → n * max a b ≤ most
times_max n a b most left right = grind arith

-- ---- how many packets

module _ (ports routes services most_routes most_services : ℕ) (few_routes : routes ≤ most_routes) (few_services : services ≤ most_services) where
  of_routes : route_sheets ports routes ≤ route_sheets ports most_routes
  of_routes = omega (arith, few_routes)

  of_services : service_sheets services ≤ service_sheets most_services
  of_services = omega (arith, few_services)

  of_both : all_sheets ports routes services ≤ all_sheets ports most_routes most_services
  of_both = omega (arith, of_routes, of_services)

  abbrev first : ℕ
  first = most_packets ports most_routes most_services Start

  abbrev second : ℕ
  second = most_packets ports most_routes most_services Second

  abbrev up : ℕ
  up = most_packets ports most_routes most_services (PortUp 0)

  first_ever : first ≤ packets_ever ports most_routes most_services
  first_ever = le_trans (le-max_left first second) (le-max_left (max first second) up)

  second_ever : second ≤ packets_ever ports most_routes most_services
  second_ever = le_trans (le-max_right first second) (le-max_left (max first second) up)

  up_ever : up ≤ packets_ever ports most_routes most_services
  up_ever = le-max_right (max first second) up

  periodic : ports * all_sheets ports routes services ≤ packets_ever ports most_routes most_services
  periodic = le_trans (mul-le-mul_left ports of_both) second_ever

  upwards : ports + 1 + route_sheets ports routes + service_sheets services ≤ packets_ever ports most_routes most_services
  upwards = le_trans (omega (arith, of_routes, of_services)) up_ever

  pub packets_within : (event : Event) → most_packets ports routes services event ≤ packets_ever ports most_routes most_services
  packets_within Start = first_ever
  packets_within Stop = periodic
  packets_within Second = periodic
  packets_within (Packet number bytes) = grind arith
  packets_within (PortDown number) = le_trans (mul-le-mul_right (all_sheets ports routes services) (omega arith)) periodic
  packets_within (PortUp number) = upwards

  -- what a packet causes
  caused : max ports (max (route_sheets ports routes) (service_sheets services)) ≤ most_packets ports most_routes most_services (Packet 0 [])
  caused = grind arith

  -- ---- how many bytes

  pub bytes_within : (longest : ℕ) (event : Event) → IsUpTo longest event
      → most_packets ports routes services event * most_length event ≤ bytes_ever ports most_routes most_services longest
  bytes_within longest (Packet number bytes) short = within (packet_of bytes) short
    where
      came : ℕ
      came = most_packets ports routes services (Packet number bytes)

      own : came * most_own_length ≤ bytes_ever ports most_routes most_services longest
      own = le_trans (mul-le-mul_right most_own_length (packets_within (Packet number bytes))) (le-max_left _ _)

      within : (read : Result Parts PacketFault) → IfOk read (λ p. p.header.length ≤ longest)
          → came * elim read [ Ok p ↦ max most_own_length p.header.length | Err fault ↦ most_own_length ] ≤ bytes_ever ports most_routes most_services longest
      within (Ok p) fits = times_max came most_own_length p.header.length _ own (le_trans (mul-le _ _ _ _ caused fits) (le-max_right _ _))
      within (Err fault) fits = own
  bytes_within longest Start short = le_trans (mul-le-mul_right most_own_length (packets_within Start)) (le-max_left _ _)
  bytes_within longest Stop short = le_trans (mul-le-mul_right most_own_length (packets_within Stop)) (le-max_left _ _)
  bytes_within longest Second short = le_trans (mul-le-mul_right most_own_length (packets_within Second)) (le-max_left _ _)
  bytes_within longest (PortDown number) short = le_trans (mul-le-mul_right most_own_length (packets_within (PortDown number))) (le-max_left _ _)
  bytes_within longest (PortUp number) short = le_trans (mul-le-mul_right most_own_length (packets_within (PortUp number))) (le-max_left _ _)

pub always_room : (most_routes most_services longest : ℕ) (s : State) (event : Event) (o : Contents)
    → IsWithinCapacity most_routes most_services s → IsUpTo longest event
    → HasRoom o (packets_ever (length s.ports) most_routes most_services) (bytes_ever (length s.ports) most_routes most_services longest) → HasRoomFor s event o
always_room most_routes most_services longest s event o within short room = grind (arith, le_trans, packets_within, bytes_within)

-- ---- which packets are that long

-- a packet is no longer than the bytes that it came in
pub up_to_what_came : (longest : ℕ) (bytes : List ℕ) → length bytes ≤ longest → IfOk (packet_of bytes) (λ p. p.header.length ≤ longest)
unfolding packet_of
up_to_what_came longest bytes few = grind (arith, field_of_header, ltb-false)

-- what holds of each packet that is read holds of what is read
pub of_each_read : (P : Parts → Type 0) (read : Result Parts PacketFault) → ((p : Parts) → read ≡ Ok p → P p) → IfOk read P
of_each_read P read each = grind arith
