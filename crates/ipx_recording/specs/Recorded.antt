-- The packets of a recording.
use Rattle.std.specs.Prelude.{ℕ, zero, suc, ◌+◌, nat_lt, Bool, true, false, not, if◌then◌else◌, List, [], ◌∷◌, ◌++◌, length, drop, Option, Some, None, Result, Ok, Err}
use Rattle.ipx_wire.specs.Piece.{piece}
use Rattle.ipx_capture.specs.Frame.{begins as begins_with}
use Rattle.ipx_capture.specs.declared.order.Order.{Order}
use Rattle.ipx_capture.specs.declared.order.Order.TheVariants.{Big}
use Rattle.ipx_recording.specs.Met.{met, section, section_front, interface_front, length_size}
use Rattle.ipx_recording.specs.declared.due.Due.{Due}
use Rattle.ipx_recording.specs.declared.due.Due.TheVariants.{Block, Packet, Rest}
use Rattle.ipx_recording.specs.declared.interface.Interface.{Interface}
use Rattle.ipx_recording.specs.declared.met.Met.{Met}
use Rattle.ipx_recording.specs.declared.met.Met.TheVariants.{Wants, Passed, Captured, Described, Section}
use Rattle.ipx_recording.specs.declared.recording_fault.RecordingFault.{RecordingFault}
use Rattle.ipx_recording.specs.declared.recording_fault.RecordingFault.TheVariants.{CutHeader, Magic, Version, BlockLength, NoInterface, ManyInterfaces, RecordLong, LengthAgain, CutBlock}

-- how far a recording has been read: the byte order of its section, the interfaces described in it, and which part comes next
pub record State : Type 0 where
  pub order : Order
  pub interfaces : List Interface
  pub due : Due

-- a packet: its number in the file, from 1, the link type of its interface, how many bytes were on the wire, and the bytes kept
pub record Recorded : Type 0 where
  pub number : ℕ
  pub link : ℕ
  pub wire : ℕ
  pub bytes : List ℕ

-- the packets of a recording, and its end: whole, or a fault
pub record Contents : Type 0 where
  pub records : List Recorded
  pub fault : Option RecordingFault

-- whether nothing can be told before more bytes are there
abbrev pub is_wanting : Met → Bool
is_wanting (Wants n) = true
is_wanting (Passed n due) = false
is_wanting (Captured link kept wire due) = false
is_wanting (Described i due) = false
is_wanting (Section order due) = false

-- how many bytes a part takes
abbrev pub size_of : Met → ℕ
size_of (Wants n) = 0
size_of (Passed n due) = n
size_of (Captured link kept wire due) = length_size + kept
size_of (Described i due) = interface_front
size_of (Section order due) = section_front

-- what comes next: a section forgets the interfaces of the one before
abbrev pub after : State → Met → State
after s (Wants n) = s
after s (Passed n due) = record { order = s.order; interfaces = s.interfaces; due = due }
after s (Captured link kept wire due) = record { order = s.order; interfaces = s.interfaces; due = due }
after s (Described i due) = record { order = s.order; interfaces = s.interfaces ++ i ∷ []; due = due }
after s (Section order due) = record { order = order; interfaces = []; due = due }

-- the packet that a part is
abbrev pub packets : ℕ → List ℕ → Met → List Recorded
packets n bytes (Wants k) = []
packets n bytes (Passed k due) = []
packets n bytes (Captured link kept wire due) = record { number = n; link = link; wire = wire; bytes = piece bytes length_size kept } ∷ []
packets n bytes (Described i due) = []
packets n bytes (Section order due) = []

-- the end of a file: whole behind a block, and else inside one
abbrev pub end_at : Due → List ℕ → Option RecordingFault
end_at Block [] = None
end_at Block (b ∷ bytes) = Some CutBlock
end_at (Packet link kept left n) bytes = Some CutBlock
end_at (Rest left n) bytes = Some CutBlock

-- packets before others
abbrev pub prepend : List Recorded → Contents → Contents
prepend rs c = record { records = rs ++ c.records; fault = c.fault }

-- what was met, and the packets that follow it
abbrev pub from_met : State → ℕ → List ℕ → (State → ℕ → List ℕ → Contents) → Result Met RecordingFault → Contents
from_met s n bytes following (Err fault) = record { records = []; fault = Some fault }
from_met s n bytes following (Ok m) =
    if is_wanting m then record { records = []; fault = end_at s.due bytes }
    else prepend (packets n bytes m) (following (after s m) (n + length (packets n bytes m)) (drop (size_of m) bytes))

-- the packets of the bytes from a part on, numbered from n, where there are fewer parts than `most`
abbrev pub parts : (most : ℕ) → State → ℕ → List ℕ → Contents
parts zero s n bytes = record { records = []; fault = None }
parts (suc most) s n bytes = from_met s n bytes (parts most) (met s.order s.interfaces s.due bytes)

-- the same of all of them
unfoldable pub packets_from : State → ℕ → List ℕ → Contents
packets_from s n bytes = parts (suc (length bytes)) s n bytes

-- whether a file is a recording: it begins with the kind of a section's header, which is the same in both byte orders
unfoldable pub is_recording : List ℕ → Bool
is_recording bytes = begins_with (0x0A ∷ 0x0D ∷ 0x0D ∷ 0x0A ∷ []) bytes

-- how many bytes say what the first section is
abbrev pub header_size : ℕ
header_size = section_front

-- where a file stands behind its first section's fields, or the fault of these
abbrev pub begun : Result Met RecordingFault → Result State RecordingFault
begun (Err fault) = Err fault
begun (Ok m) = Ok (after (record { order = Big; interfaces = []; due = Block }) m)

unfoldable pub begins : List ℕ → Result State RecordingFault
begins bytes =
    if nat_lt (length bytes) header_size then Err CutHeader
    else if not (is_recording bytes) then Err Magic
    else begun (section bytes)

-- the packets behind the first section's fields
abbrev pub behind_header : Result State RecordingFault → List ℕ → Contents
behind_header (Err fault) bytes = record { records = []; fault = Some fault }
behind_header (Ok s) bytes = packets_from s 1 (drop header_size bytes)

-- the packets of a recording
abbrev pub recorded : List ℕ → Contents
recorded bytes = behind_header (begins bytes) bytes

-- whether no further bytes take a fault back: all but those of a file that ends too soon
abbrev pub is_final : RecordingFault → Bool
is_final CutHeader = false
is_final CutBlock = false
is_final Magic = true
is_final Version = true
is_final BlockLength = true
is_final NoInterface = true
is_final ManyInterfaces = true
is_final RecordLong = true
is_final LengthAgain = true

-- the fault of a recording, if no further bytes take it back
abbrev pub final : Option RecordingFault → Option RecordingFault
final None = None
final (Some fault) = if is_final fault then Some fault else None
