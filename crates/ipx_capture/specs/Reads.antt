-- What a capture asks of its reader.
use Rattle.std.specs.Prelude.{◌≡◌, ℕ, ◌+◌, ◌*◌, ◌<◌, ◌≤◌, ◌⊎◌, Bool, false, true, List, [], ◌++◌, length, take, Result, Ok, Err}
use Rattle.std.specs.Io.KnownBytes.{Consumes, IsAtEnd}
use Rattle.ipx_wire.specs.Ends.{Input, LostInput}
use Rattle.ipx_wire.specs.declared.failed.Failed.{Failed}
use Rattle.ipx_capture.specs.Asks.{Fetched, MeetsEnd, Lacks}
use Rattle.ipx_capture.specs.Window.{most_room}
use Rattle.ipx_capture.specs.declared.capture_fault.CaptureFault.{CaptureFault}
use Rattle.ipx_capture.specs.declared.capture_fault.CaptureFault.TheVariants.{CutHeader, Magic, Version, Link, RecordLong, CutRecord, Read, Memory}

-- how often an intake asks its reader at most
abbrev pub most_calls : ℕ
most_calls = 16777216

-- the reader gave these bytes, at most a buffer full at each call
pub record Gained (before after : Input) (more : List ℕ) : Type 0 where
  pub read : Consumes before.left after.left more
  pub few : length more + most_room * before.calls ≤ most_room * after.calls
  pub bounded : before.calls ≤ most_calls → after.calls ≤ most_calls

-- which fault it is where reading was given up
abbrev pub GaveUp : Bool → CaptureFault → Type 0
GaveUp failed Read = failed ≡ true
GaveUp failed Memory = failed ≡ false
GaveUp failed CutHeader = ⊥
GaveUp failed Magic = ⊥
GaveUp failed Version = ⊥
GaveUp failed Link = ⊥
GaveUp failed RecordLong = ⊥
GaveUp failed CutRecord = ⊥

module _ (asked : ℕ → List ℕ → Result ℕ Failed → ℕ → Type 0) where
  -- one call, with room for at least one byte, gave n bytes; none only at the source's end
  pub record CameOnce (before after : Input) (buffer : List ℕ) (n : ℕ) : Type 0 where
    pub room : 0 < length buffer
    pub bound : n ≤ length buffer
    pub read : Consumes before.left after.left (take n buffer)
    pub ended : n ≡ 0 → IsAtEnd after.left
    pub fine : after.failed ≡ before.failed
    pub counted : after.calls ≡ before.calls + 1
    pub bounded : after.calls ≤ most_calls
    pub once : asked before.state buffer (Ok n) after.state

  -- one call failed
  pub record IsFailing (before after : ℕ) : Type 0 where
    pub buffer : List ℕ
    pub room : 0 < length buffer
    pub fault : Failed
    pub once : asked before buffer (Err fault) after

  -- the intake failed: its source was asked as often as it may be, and wasn't asked again; or one call failed
  pub record FailedOnce (before after : Input) : Type 0 where
    pub lost : LostInput before after
    pub made : (after.state ≡ before.state) ⊎ IsFailing before.state after.state

  -- one call put n bytes behind those ahead; none only at the source's end
  pub record Filled (old new : List ℕ) (before after : Input) (n : ℕ) : Type 0 where
    pub more : List ℕ
    pub gained : Gained before after more
    pub grown : new ≡ old ++ more
    pub counted : length more ≡ n
    pub fine : after.failed ≡ before.failed
    pub ended : n ≡ 0 → IsAtEnd after.left
    pub buffer : List ℕ
    pub room : 0 < length buffer
    pub once : asked before.state buffer (Ok n) after.state
    pub gave : more ≡ take n buffer

  -- calls put bytes behind those ahead: as many as are needed, or all that there were
  pub record Gathered (old new : List ℕ) (before after : Input) (need : ℕ) (enough : Bool) : Type 0 where
    pub more : List ℕ
    pub gained : Gained before after more
    pub grown : new ≡ old ++ more
    pub fine : after.failed ≡ before.failed
    pub fetched : Fetched asked (Lacks need) old more before.state after.state
    pub whole : enough ≡ true → need ≤ length new
    pub ended : enough ≡ false → (length new < need) × IsAtEnd after.left × MeetsEnd fetched.asks

  -- bytes were read, and then the intake failed or no memory was left
  pub record Lost (old : List ℕ) (before after : Input) (need : ℕ) (fault : CaptureFault) : Type 0 where
    pub more : List ℕ
    pub read : Consumes before.left after.left more
    pub told : GaveUp after.failed fault
    pub fetched : Fetched asked (Lacks need) old more before.state after.state

  -- the front of a buffer was filled with n bytes: all of it, or all that there were
  pub record FilledFront (buffer : List ℕ) (before after : Input) (n : ℕ) : Type 0 where
    pub bound : n ≤ length buffer
    pub read : Consumes before.left after.left (take n buffer)
    pub fine : after.failed ≡ before.failed
    pub bounded : 0 < n → after.calls ≤ most_calls
    pub fetched : Fetched asked (Lacks (length buffer)) [] (take n buffer) before.state after.state
    pub ended : n < length buffer → IsAtEnd after.left × MeetsEnd fetched.asks

  -- the same where the source failed
  pub record LostFront (need : ℕ) (before after : Input) : Type 0 where
    pub front : List ℕ
    pub read : Consumes before.left after.left front
    pub failed : after.failed ≡ true
    pub fetched : Fetched asked (Lacks need) [] front before.state after.state
