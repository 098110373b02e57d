-- What lies in the buffer of a capture.
use Rattle.std.specs.Prelude.{ℕ, ◌+◌, ◌≤◌, max, List}
use Rattle.ipx_capture.specs.Records.{record_header, most_kept}

-- the bytes of the record last taken, those in the buffer after it, and for how many bytes the buffer has memory
pub record Held : Type 0 where
  pub taken : List ℕ
  pub ahead : List ℕ
  pub memory : ℕ

-- the smallest and the largest buffer
abbrev pub least_room : ℕ
least_room = 8192

abbrev pub most_room : ℕ
most_room = record_header + most_kept

-- a buffer's memory stays as it was, or grows to what is needed and no further
pub record Grows (need old new : ℕ) : Type 0 where
  pub kept : old ≤ new
  pub needed : new ≤ max need old

-- both lie in the buffer, whose memory is never more than the longest record takes with its header
pub record Fits (room capacity start kept from count : ℕ) : Type 0 where
  pub taken : start + kept ≤ room
  pub ahead : from + count ≤ room
  pub some : least_room ≤ room
  pub most : room ≤ most_room
  pub memory : capacity ≤ most_room
