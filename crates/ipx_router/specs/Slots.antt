-- Where an outbox keeps its packets: their bytes stand one after another at the beginning of the room, and for each packet
-- there is a slot.
use Rattle.std.specs.Prelude.{◌≡◌, ℕ, ◌+◌, ◌≤◌, List, length, take, drop, map}
use Rattle.std.specs.List.{AllByRecursion}
use Rattle.ipx_router.specs.Outbox.{total}
use Rattle.ipx_router.specs.Relays.{Sent}
use Rattle.ipx_router.specs.declared.outbox.Slot.{Slot}

-- the packet of a slot
abbrev pub sent_in : List ℕ → Slot → Sent
sent_in bytes slot = record { port = slot.port; link = slot.link; bytes = take slot.size (drop slot.start bytes) }

-- the slot's bytes are there
abbrev pub IsIn : List ℕ → Slot → Type 0
IsIn bytes slot = slot.start + slot.size ≤ length bytes

-- the first bytes of the room, as many as are used, are those of the slots, and of nothing else
pub record IsFlat (room : List ℕ) (used : ℕ) (slots : List Slot) : Type 0 where
  pub fits : used ≤ length room
  pub each : AllByRecursion (IsIn (take used room)) slots
  pub whole : total (map (sent_in (take used room)) slots) ≡ used
