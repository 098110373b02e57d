-- One call to a source.
use Rattle.std.proofs.Common.{◌≡◌, ℕ, ◌<◌, ◌≤◌, List, [], length, arith, IfOk, OnErr, Option, Result}
use Rattle.std.specs.Io.KnownBytes.{Consumes, Keeps}
use Rattle.ipx_wire.specs.Ends.{Input, Gave, LostInput, calls_after}
use Rattle.ipx_wire.specs.declared.failed.Failed.{Failed}
use Rattle.ipx_capture.specs.Reads.{CameOnce, FailedOnce}

-- no byte was lost
pub kept_none : (before after : Option (List ℕ)) → Keeps before after → Consumes before after []
kept_none before after kept = grind arith

module _ (asked : ℕ → List ℕ → Result ℕ Failed → ℕ → Type 0) (old new : Input) (buffer : List ℕ) where
  pub came_once : (answer : Result ℕ Failed) → 0 < length buffer → IfOk answer (Gave old new buffer) → new.calls ≡ calls_after old.calls
      → (old.calls < 16777216 → asked old.state buffer answer new.state) → IfOk answer (CameOnce asked old new buffer)
  came_once answer room gave calls once = grind arith

  pub failed_once : (answer : Result ℕ Failed) → 0 < length buffer → OnErr answer (LostInput old new) → (old.calls < 16777216 → asked old.state buffer answer new.state)
      → (16777216 ≤ old.calls → new.state ≡ old.state) → OnErr answer (FailedOnce asked old new)
  failed_once answer room lost once spared = grind arith

pub on_err_all : {T E : Type 0} {P : Type 0} (r : Result T E) → P → OnErr r P
on_err_all r p = grind arith
