-- Frames, as C names their kinds by numbers: 0 is none.
use Rattle.std.specs.Prelude.{ℕ, ◌-◌, ◌==◌, if◌then◌else◌, List, length, Option, Some, None}
use Rattle.ipx_capture.specs.Frame.{Kind, EthernetII, Raw, Llc, Snap}
use Rattle.ipx_capture.specs.Written.{kind_of, count_written, buffer_written}
use Rattle.ipx_capture.specs.declared.kinds.FrameKind.{FrameKind}

abbrev pub kind_number : Kind → ℕ
kind_number EthernetII = 1
kind_number Raw = 2
kind_number Llc = 3
kind_number Snap = 4

-- the kind of a frame that was read
abbrev pub number_read : Option (Kind × List ℕ) → ℕ
number_read None = 0
number_read (Some found) = kind_number found.0

-- how many bytes stand before its packet
abbrev pub front_read : Option (Kind × List ℕ) → ℕ → ℕ → ℕ
front_read None size old = old
front_read (Some found) size old = size - length found.1

-- the kind that a number names
abbrev pub kind_at : ℕ → Option Kind
kind_at number =
    if number == 1 then Some EthernetII
    else if number == 2 then Some Raw
    else if number == 3 then Some Llc
    else if number == 4 then Some Snap
    else None

-- the same of the code's values
abbrev pub kind_named : Option FrameKind → Option Kind
kind_named None = None
kind_named (Some kind) = Some (kind_of kind)

-- how long the frame is that was written, or 0
abbrev pub count_answered : Option ℕ → ℕ
count_answered None = 0
count_answered (Some count) = count

abbrev pub frame_count : Option Kind → List ℕ → ℕ → ℕ
frame_count None packet room = 0
frame_count (Some kind) packet room = count_answered (count_written kind packet room)

-- what the buffer has then
abbrev pub frame_after : Option Kind → List ℕ → List ℕ → List ℕ → List ℕ → List ℕ
frame_after None to from packet buffer = buffer
frame_after (Some kind) to from packet buffer = buffer_written kind to from packet buffer
