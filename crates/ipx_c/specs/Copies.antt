-- What copying a packet out does to what C lent for it.
use Rattle.std.specs.Prelude.{◌≡◌, ℕ, ◌+◌, ℤ, nat_le, if◌then◌else◌, List, [], ◌++◌, length, drop, slice_get, Option, None, Some, Result, Ok, Err}
use Rattle.ipx_router.specs.Outbox.{HasRoom, KeepsMemory, total}
use Rattle.ipx_router.specs.Relays.{Sent}
use Rattle.ipx_c.specs.Codes.{fault_code, done}
use Rattle.ipx_c.specs.Values.{told_of}
use Rattle.ipx_c.specs.declared.fault.Fault.{Fault}
use Rattle.ipx_c.specs.declared.fault.Fault.TheVariants.{NoRouter, NoPacket, ShortBuffer}
use Rattle.ipx_c.specs.declared.machine.Machine.{Machine}
use Rattle.ipx_c.specs.declared.values.PacketSent.{PacketSent}

-- how many packets are to be sent
abbrev pub sent_count : Option Machine → ℕ
sent_count None = 0
sent_count (Some machine) = length machine.outbox.sent

-- the packet of that number, counted from 0
abbrev pub packet_at : Option Machine → ℕ → Result Sent Fault
packet_at None index = Err NoRouter
packet_at (Some machine) index = elim (slice_get machine.outbox.sent index) [ Some sent ↦ Ok sent | None ↦ Err NoPacket ]

-- what is told of it: a packet that is too long for the buffer is told too
abbrev pub told_after : Result Sent Fault → PacketSent → PacketSent
told_after (Ok sent) told = told_of sent
told_after (Err fault) told = told

-- what the buffer has then: the packet's bytes, where they fit, and behind them what it had
abbrev pub buffer_after : Result Sent Fault → List ℕ → List ℕ
buffer_after (Ok sent) buffer =
    if nat_le (length sent.bytes) (length buffer) then sent.bytes ++ drop (length sent.bytes) buffer else buffer
buffer_after (Err fault) buffer = buffer

-- the number that C hears, of a buffer with that room
abbrev pub copy_code : Result Sent Fault → ℕ → ℤ
copy_code (Ok sent) room = if nat_le (length sent.bytes) room then done else fault_code ShortBuffer
copy_code (Err fault) room = fault_code fault

-- a machine after a clearing: the same router, and nothing to be sent. The room of what was to be sent is there again, and the
-- room that was left stays, in the same memory
pub record Cleared (m n : Machine) : Type 0 where
  pub router : n.router ≡ m.router
  pub sent : n.outbox.sent ≡ []
  pub room : (packets bytes : ℕ) → HasRoom m.outbox packets bytes
      → HasRoom n.outbox (packets + length m.outbox.sent) (bytes + total m.outbox.sent)
  pub kept : (packets bytes : ℕ) → HasRoom m.outbox packets bytes → HasRoom n.outbox packets bytes
  pub memory : KeepsMemory m.outbox n.outbox

-- what a handle has after a clearing
abbrev pub IsCleared : Option Machine → Option Machine → Type 0
IsCleared None after = after ≡ None
IsCleared (Some m) after = (n : Machine) × (after ≡ Some n) × Cleared m n
