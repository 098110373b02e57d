-- What is read and written of a recording.
use Rattle.std.specs.Prelude.{◌≡◌, ◌⊎◌, ℕ, ◌<◌, ◌≤◌, Bool, true, false, List, [], ◌++◌, length, MatchResult, Option, Some, None, Result, Ok}
use Rattle.std.specs.Io.KnownBytes.{Appends, Consumes, IsAtEnd}
use Rattle.ipx_wire.specs.Ends.{Input, Output}
use Rattle.ipx_capture.specs.Header.{header_size}
use Rattle.ipx_capture.specs.Reads.{most_calls, Gained}
use Rattle.ipx_recording.specs.Recorded.{State, packets_from}
use Rattle.ipx_recording.specs.declared.recording_fault.RecordingFault.{RecordingFault}
use Rattle.ipx_cmd.specs.Decoded.{IsFront}
use Rattle.ipx_cmd.specs.RecordedText.{Said, contents_said, recording_fault_text}
use Rattle.ipx_cmd.specs.WroteFront.{IsFaultOf, WroteAll, WroteFront}
use Rattle.ipx_cmd.specs.declared.ended.Ended.{Ended}
use Rattle.ipx_cmd.specs.declared.ended.Ended.TheVariants.{Done, BadInput}
use Rattle.ipx_cmd.specs.declared.ended.RunFault.{RunFault}

-- the header of a file was read: fewer bytes than it has only at the reader's end
pub record HasRead (before now : Input) (front : List ℕ) : Type 0 where
  pub read : Consumes before.left now.left front
  pub few : length front ≤ header_size
  pub bounded : 0 < length front → now.calls ≤ most_calls
  pub ended : length front < header_size → IsAtEnd now.left

-- these bytes were read, and all that is said of them was written
pub record ShowsAll (said : List ℕ → Said) (old new : Input) (from to : Output) (ended : Ended) : Type 0 where
  pub bytes : List ℕ
  pub read : Consumes old.left new.left bytes
  pub wrote : Appends from.written to.written (said bytes).shown
  pub answer : ended ≡ (said bytes).ended
  pub enough : IsAtEnd new.left ⊎ ((said bytes).judged ≡ true)

-- or a prefix of it
pub record ShowsFront (said : List ℕ → Said) (old new : Input) (from to : Output) : Type 0 where
  pub bytes : List ℕ
  pub text : List ℕ
  pub read : Consumes old.left new.left bytes
  pub wrote : Appends from.written to.written text
  pub front : IsFront text (said bytes).sofar ⊎ (IsAtEnd new.left × IsFront text (said bytes).shown)

-- what is said of the bytes from a part on
abbrev pub said_from : State → List ℕ → Said
said_from s bytes = contents_said (packets_from s 1 bytes)

-- a text and the line of a fault were written, as the last of the run; or a prefix of them
abbrev pub TellsFault : ℕ → RecordingFault → Output → Output → List ℕ → Result Ended RunFault → Type 0
TellsFault number fault from to text answer = MatchResult answer
    (λ ended. (ended ≡ BadInput) × WroteAll from to (text ++ recording_fault_text number fault))
    (λ why. WroteFront from to (text ++ recording_fault_text number fault) × IsFaultOf false to.failed why)

-- at the end of a file all is written, or the line of the fault; or a prefix of it
abbrev pub EndsWith : ℕ → Option RecordingFault → Output → Output → Result Ended RunFault → Type 0
EndsWith number None from to answer = (answer ≡ Ok Done) × (to ≡ from)
EndsWith number (Some fault) from to answer = TellsFault number fault from to [] answer

-- bytes were read, and then the reader failed or no memory was left
pub record Stopped (old new : Input) (why : RunFault) : Type 0 where
  pub more : List ℕ
  pub read : Consumes old.left new.left more
  pub told : IsFaultOf new.failed false why

-- bytes came behind those ahead: as many as are needed, or all that there were
pub record Brought (old new : List ℕ) (before after : Input) (need : ℕ) (enough : Bool) : Type 0 where
  pub more : List ℕ
  pub gained : Gained before after more
  pub grown : new ≡ old ++ more
  pub fine : after.failed ≡ before.failed
  pub whole : enough ≡ true → need ≤ length new
  pub ended : enough ≡ false → (length new < need) × IsAtEnd after.left
