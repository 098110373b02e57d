-- What a run of `decode` does with the text that it has not written yet.
use Rattle.std.specs.Prelude.{◌≡◌, ℕ, List, ◌++◌, MatchResult, false, Result, Err}
use Rattle.std.specs.Io.KnownBytes.{Appends}
use Rattle.ipx_wire.specs.Ends.{Output}
use Rattle.ipx_capture.specs.declared.capture_fault.CaptureFault.{CaptureFault}
use Rattle.ipx_capture.specs.declared.capture_fault.CaptureFault.TheVariants.{CutHeader, Magic, Version, Link, RecordLong, CutRecord, Read, Memory}
use Rattle.ipx_cmd.specs.WroteFront.{IsFaultOf, WroteAll, WroteFront}
use Rattle.ipx_cmd.specs.Shown.{capture_fault_text}
use Rattle.ipx_cmd.specs.declared.ended.Ended.{Ended}
use Rattle.ipx_cmd.specs.declared.ended.Ended.TheVariants.{BadInput}
use Rattle.ipx_cmd.specs.declared.ended.RunFault.{RunFault}
use Rattle.ipx_cmd.specs.declared.ended.RunFault.TheVariants.{Read as ReadFault, Memory as MemoryFault}

-- a prefix of a text was written, none or all of it, and the rest is left
pub record Moved (from to : Output) (old new : List ℕ) : Type 0 where
  pub gone : List ℕ
  pub written : Appends from.written to.written gone
  pub all : old ≡ gone ++ new
  pub fine : to.failed ≡ false

-- a text and the line of a fault were written, as the last of the run; or a prefix of them
abbrev pub Tells : ℕ → CaptureFault → Output → Output → List ℕ → Result Ended RunFault → Type 0
Tells number fault from to text answer = MatchResult answer
    (λ ended. (ended ≡ BadInput) × WroteAll from to (text ++ capture_fault_text number fault))
    (λ why. WroteFront from to (text ++ capture_fault_text number fault) × IsFaultOf false to.failed why)

-- a fault of the file is told; that of the reader or of the memory gives the run up, and nothing is written
abbrev pub Refuses : CaptureFault → ℕ → Output → Output → List ℕ → Result Ended RunFault → Type 0
Refuses CutHeader number from to text answer = Tells number CutHeader from to text answer
Refuses Magic number from to text answer = Tells number Magic from to text answer
Refuses Version number from to text answer = Tells number Version from to text answer
Refuses Link number from to text answer = Tells number Link from to text answer
Refuses RecordLong number from to text answer = Tells number RecordLong from to text answer
Refuses CutRecord number from to text answer = Tells number CutRecord from to text answer
Refuses Read number from to text answer = (answer ≡ Err ReadFault) × (to ≡ from)
Refuses Memory number from to text answer = (answer ≡ Err MemoryFault) × (to ≡ from)
