-- The text of a capture.
use Rattle.std.specs.Prelude.{ℕ, ◌+◌, Bool, true, false, if◌then◌else◌, List, [], ◌++◌, length, codes, decimal, Option, Some, None}
use Rattle.std.specs.List.{flat_map}
use Rattle.ipx_capture.specs.Records.{Contents, records}
use Rattle.ipx_capture.specs.declared.capture_fault.CaptureFault.{CaptureFault}
use Rattle.ipx_capture.specs.declared.capture_fault.CaptureFault.TheVariants.{CutHeader, Magic, Version, Link, RecordLong, CutRecord, Read, Memory}
use Rattle.ipx_cmd.specs.CaptureWord.{capture_word}
use Rattle.ipx_recording.specs.Recorded.{is_recording}
use Rattle.ipx_cmd.specs.RecordText.{record_text}
use Rattle.ipx_cmd.specs.RecordedText.{recording_said}
use Rattle.ipx_cmd.specs.declared.ended.Ended.{Ended}
use Rattle.ipx_cmd.specs.declared.ended.Ended.TheVariants.{Done, BadInput}

-- the number that a fault is shown by, behind the records taken: that of the record that can't be read, or 0 for the header
abbrev pub fault_number : ℕ → CaptureFault → ℕ
fault_number taken RecordLong = taken + 1
fault_number taken CutRecord = taken + 1
fault_number taken CutHeader = 0
fault_number taken Magic = 0
fault_number taken Version = 0
fault_number taken Link = 0
fault_number taken Read = 0
fault_number taken Memory = 0

-- the line of a fault: `record N: WORD`
unfoldable pub capture_fault_text : ℕ → CaptureFault → List ℕ
capture_fault_text number fault = codes "record " ++ decimal number ++ codes ": " ++ capture_word fault ++ codes "\n"

-- the last line, where there is a fault
abbrev pub ending_text : ℕ → Option CaptureFault → List ℕ
ending_text taken None = []
ending_text taken (Some fault) = capture_fault_text (fault_number taken fault) fault

-- whether no further bytes take a fault back: all but those of a file that ends too soon
abbrev pub is_settled : CaptureFault → Bool
is_settled CutHeader = false
is_settled CutRecord = false
is_settled Magic = true
is_settled Version = true
is_settled Link = true
is_settled RecordLong = true
is_settled Read = false
is_settled Memory = false

-- the fault of a capture, if no further bytes take it back
abbrev pub settled : Option CaptureFault → Option CaptureFault
settled None = None
settled (Some fault) = if is_settled fault then Some fault else None

abbrev pub is_some_fault : Option CaptureFault → Bool
is_some_fault None = false
is_some_fault (Some fault) = true

-- the text of a capture's records, and of its end
abbrev pub contents_text : Contents → Option CaptureFault → List ℕ
contents_text c fault = flat_map record_text c.records ++ ending_text (length c.records) fault

-- the text of a capture, or of a recording, which is known by its first four bytes
unfoldable pub shown : List ℕ → List ℕ
shown bytes = if is_recording bytes then (recording_said bytes).shown else contents_text (records bytes) (records bytes).fault

-- how its run ends
abbrev pub ended_by : Option CaptureFault → Ended
ended_by None = Done
ended_by (Some fault) = BadInput

unfoldable pub shown_end : List ℕ → Ended
shown_end bytes = if is_recording bytes then (recording_said bytes).ended else ended_by (records bytes).fault

-- the text of a capture that may go on: of its whole header and its whole records, and of the header of a record that is too long
unfoldable pub sofar : List ℕ → List ℕ
sofar bytes = if is_recording bytes then (recording_said bytes).sofar else contents_text (records bytes) (settled (records bytes).fault)

-- whether that text ends in a fault
unfoldable pub judged : List ℕ → Bool
judged bytes = if is_recording bytes then (recording_said bytes).judged else is_some_fault (settled (records bytes).fault)
