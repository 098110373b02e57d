-- The room that an event needs in an outbox, and the room that is enough for each.
use Rattle.std.specs.Prelude.{ℕ, ◌*◌, ◌≤◌, max, [], length, IfOk}
use Rattle.ipx_wire.specs.Packet.{packet_of}
use Rattle.ipx_router.specs.Bounds.{most_packets, most_length}
use Rattle.ipx_router.specs.History.{Event, Start, Second, Packet, PortUp}
use Rattle.ipx_router.specs.Numbers.{most_own_length}
use Rattle.ipx_router.specs.Outbox.{Contents, HasRoom, TakesRoom}
use Rattle.ipx_router.specs.Stands.{State}

-- the most packets that it sends
abbrev pub packets_needed : State → Event → ℕ
packets_needed s event = most_packets (length s.ports) (length s.routes) (length s.services) event

-- and as many of the longest
abbrev pub bytes_needed : State → Event → ℕ
bytes_needed s event = packets_needed s event * most_length event

-- they fit into the room
abbrev pub HasRoomFor : State → Event → Contents → Type 0
HasRoomFor s event o = HasRoom o (packets_needed s event) (bytes_needed s event)

-- the room that the event needs was made, where it was missing, and no more memory taken than for it
abbrev pub TakesRoomFor : State → Event → Contents → Contents → Type 0
TakesRoomFor s event old new = TakesRoom old new (packets_needed s event) (bytes_needed s event)

-- ---- enough for every event

-- the most packets that any event sends, in a router with this many ports and at most this many routes and services: a start, a second
-- or a port that comes up, since no other event sends more
abbrev pub packets_ever : ℕ → ℕ → ℕ → ℕ
packets_ever ports routes services =
    max (max (most_packets ports routes services Start) (most_packets ports routes services Second)) (most_packets ports routes services (PortUp 0))

-- the most bytes of them: of packets of its own, or of as many as a packet causes, each as long as the longest that comes
abbrev pub bytes_ever : ℕ → ℕ → ℕ → ℕ → ℕ
bytes_ever ports routes services longest =
    max (packets_ever ports routes services * most_own_length) (most_packets ports routes services (Packet 0 []) * longest)

-- if the event is a packet, it is at most that long
abbrev pub IsUpTo : ℕ → Event → Type 0
IsUpTo longest (Packet number bytes) = IfOk (packet_of bytes) (λ p. p.header.length ≤ longest)
IsUpTo longest event = Unit
