-- What a call of `step` does.
use Rattle.std.specs.Prelude.{◌≡◌, ℕ, ◌+◌, ◌<◌, ◌≤◌, List, length, Ok, Err}
use Rattle.ipx_capture.specs.Records.{most_kept}
use Rattle.ipx_recording.specs.Met.{met, most_interfaces, section_front, interface_front, length_size}
use Rattle.ipx_recording.specs.Recorded.{State, after}
use Rattle.ipx_recording.specs.declared.due.Due.{Due}
use Rattle.ipx_recording.specs.declared.due.Due.TheVariants.{Block, Packet, Rest}
use Rattle.ipx_recording.specs.declared.interface.Interface.{Interface}
use Rattle.ipx_recording.specs.declared.met.Met.{Met}
use Rattle.ipx_recording.specs.declared.met.Met.TheVariants as part
use Rattle.ipx_recording.specs.declared.recording.Step.{Step}
use Rattle.ipx_recording.specs.declared.recording.Step.TheVariants as step
use Rattle.ipx_recording.specs.declared.recording_fault.RecordingFault.{RecordingFault}

-- what is said of a part
abbrev pub step_of : Met → Step
step_of (part.Wants n) = step.Wants n
step_of (part.Passed n due) = step.Passed n
step_of (part.Captured link kept wire due) = step.Packet (record { link = link; size = kept; wire = wire })
step_of (part.Described i due) = step.Passed interface_front
step_of (part.Section order due) = step.Passed section_front

-- the part at the front of the bytes was taken
pub record Stepped (old new : State) (bytes : List ℕ) (answer : Step) : Type 0 where
  pub part : Met
  pub is : met old.order old.interfaces old.due bytes ≡ Ok part
  pub said : answer ≡ step_of part
  pub then : new ≡ after old part

-- there is a fault at the front of the bytes
pub record Refused (old new : State) (bytes : List ℕ) (fault : RecordingFault) : Type 0 where
  pub is : met old.order old.interfaces old.due bytes ≡ Err fault
  pub same : new ≡ old

-- a packet is never longer than what is kept at most
abbrev pub IsDue : Due → Type 0
IsDue Block = Unit {0}
IsDue (Packet link kept left n) = kept ≤ most_kept
IsDue (Rest left n) = Unit {0}

-- what is met of a section with these interfaces
abbrev pub Fits : List Interface → Met → Type 0
Fits interfaces (part.Wants n) = n ≤ length_size + most_kept
Fits interfaces (part.Passed n due) = IsDue due
Fits interfaces (part.Captured link kept wire due) = IsDue due
Fits interfaces (part.Described i due) = (length interfaces < most_interfaces) × IsDue due
Fits interfaces (part.Section order due) = IsDue due

-- so few bytes are ever needed
abbrev pub IsFew : Step → Type 0
IsFew (step.Wants n) = n ≤ length_size + most_kept
IsFew (step.Passed n) = Unit {0}
IsFew (step.Packet p) = Unit {0}

-- what is taken is there, and what is wanted isn't
abbrev pub IsWithin : List ℕ → Step → Type 0
IsWithin bytes (step.Wants n) = length bytes < n
IsWithin bytes (step.Passed n) = (1 ≤ n) × (n ≤ length bytes)
IsWithin bytes (step.Packet p) = length_size + p.size ≤ length bytes
