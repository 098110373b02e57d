-- What a run leaves at its two ends, and whose its fault is.
use Rattle.std.specs.Prelude.{◌≡◌, ℕ, List, Bool, true, false, take}
use Rattle.std.specs.Io.KnownBytes.{Appends}
use Rattle.ipx_wire.specs.Ends.{Output}
use Rattle.ipx_cmd.specs.declared.ended.RunFault.{RunFault}
use Rattle.ipx_cmd.specs.declared.ended.RunFault.TheVariants.{Read, Write, Memory}

-- the fault that is told is the one that was met: a device's where it has failed, and out of memory where none has
abbrev pub IsFaultOf : Bool → Bool → RunFault → Type 0
IsFaultOf intake outlet Read = intake ≡ true
IsFaultOf intake outlet Write = outlet ≡ true
IsFaultOf intake outlet Memory = (intake ≡ false) × (outlet ≡ false)

-- some first bytes were written
pub record WroteFront (old new : Output) (bytes : List ℕ) : Type 0 where
  pub count : ℕ
  pub written : Appends old.written new.written (take count bytes)

-- all bytes were written, and nothing failed
pub record WroteAll (old new : Output) (bytes : List ℕ) : Type 0 where
  pub written : Appends old.written new.written bytes
  pub fine : new.failed ≡ old.failed
