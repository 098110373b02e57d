-- What was taken, as a record.
use Rattle.std.specs.Prelude.{ℕ, List, Option, Some, None, Result, Ok, Err}
use Rattle.ipx_capture.specs.Records.{Record}
use Rattle.ipx_capture.specs.declared.capture_fault.CaptureFault.{CaptureFault}

-- the count of bytes on the wire, with the record's number and the bytes kept
abbrev pub numbered : ℕ → List ℕ → Result (Option ℕ) CaptureFault → Result (Option Record) CaptureFault
numbered n bytes (Ok None) = Ok None
numbered n bytes (Ok (Some wire)) = Ok (Some (record { number = n; wire = wire; bytes = bytes }))
numbered n bytes (Err fault) = Err fault
