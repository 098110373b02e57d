-- The words of the faults of a capture file.
use Rattle.std.specs.Prelude.{ℕ, List, codes}
use Rattle.ipx_capture.specs.declared.capture_fault.CaptureFault.{CaptureFault}
use Rattle.ipx_capture.specs.declared.capture_fault.CaptureFault.TheVariants.{CutHeader, Magic, Version, Link, RecordLong, CutRecord, Read, Memory}

-- the name of the fault
abbrev pub capture_word : CaptureFault → List ℕ
capture_word CutHeader = codes "CutHeader"
capture_word Magic = codes "Magic"
capture_word Version = codes "Version"
capture_word Link = codes "Link"
capture_word RecordLong = codes "RecordLong"
capture_word CutRecord = codes "CutRecord"
capture_word Read = codes "Read"
capture_word Memory = codes "Memory"
