-- The two ends of a run: what a source gives and what a sink takes.
use Rattle.std.specs.Prelude.{◌≡◌, ℕ, ◌+◌, ◌<◌, ◌≤◌, ◌⊎◌, min, List, length, take, Option, Bool, true, Result, Ok, Err}
use Rattle.std.specs.Io.KnownBytes.{Appends, Consumes, IsAtEnd, Keeps}
use Rattle.ipx_wire.specs.declared.failed.Failed.{Failed}

-- what an intake shows: the state of its source, the bytes that this has left, where they are known, how often it was asked,
-- and whether a call has returned `Failed`
pub record Input : Type 0 where
  pub state : ℕ
  pub left : Option (List ℕ)
  pub calls : ℕ
  pub failed : Bool

-- what an outlet shows: the state of its sink, the bytes that this holds, where they are known, and whether a call has
-- returned `Failed`
pub record Output : Type 0 where
  pub state : ℕ
  pub written : Option (List ℕ)
  pub failed : Bool

-- how often the source was asked after one call more: at most 16,777,216 times
abbrev pub calls_after : ℕ → ℕ
calls_after calls = min (calls + 1) 16777216

-- the source was asked and gave n bytes, which now stand at the front of the buffer; none, though there was room, only at its end
pub record Gave (old new : Input) (buffer : List ℕ) (n : ℕ) : Type 0 where
  pub bound : n ≤ length buffer
  pub bytes : Consumes old.left new.left (take n buffer)
  pub ends : n ≡ 0 → 0 < length buffer → IsAtEnd new.left
  pub asked : old.calls < 16777216
  pub fine : new.failed ≡ old.failed

-- a read failed: no byte that the source has left is lost, and the intake remembers the failure
pub record LostInput (old new : Input) : Type 0 where
  pub left : Keeps old.left new.left
  pub told : new.failed ≡ true

-- the sink took the first n bytes, at least one where there was one
pub record Took (old new : Output) (bytes : List ℕ) (n : ℕ) : Type 0 where
  pub bound : n ≤ length bytes
  pub some : 0 < length bytes → 0 < n
  pub written : Appends old.written new.written (take n bytes)
  pub fine : new.failed ≡ old.failed

-- a write failed: no byte was written, and the outlet remembers the failure
pub record LostOutput (old new : Output) : Type 0 where
  pub written : Keeps old.written new.written
  pub told : new.failed ≡ true

-- the sink was given the bytes exactly once, and answered as is told; or it took none of at least one byte, which is told as a failure
abbrev pub GaveOnce : (ℕ → List ℕ → Result ℕ Failed → ℕ → Type 0) → Output → Output → List ℕ → Result ℕ Failed → Type 0
GaveOnce given old new bytes (Ok count) = given old.state bytes (Ok count) new.state
GaveOnce given old new bytes (Err fault) = given old.state bytes (Err fault) new.state ⊎ ((0 < length bytes) × given old.state bytes (Ok 0) new.state)
