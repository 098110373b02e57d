-- Bytes written into the middle of a slice.
use Rattle.std.specs.Prelude.{◌≡◌, ℕ, ◌+◌, ◌≤◌, List, ◌++◌, length, take, drop}

-- the bytes stand at the place, where there was room, and the rest of the slice is as before
pub record PutsAt (old : List ℕ) (place : ℕ) (bytes new : List ℕ) : Type 0 where
  pub room : place + length bytes ≤ length old
  pub after : new ≡ take place old ++ bytes ++ drop (place + length bytes) old
