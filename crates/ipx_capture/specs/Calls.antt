-- What several calls of `next` come to.
use Rattle.std.specs.Prelude.{◌≡◌, ◌≢◌, List, [], ◌∷◌, Option, Some, None, Result, Ok, Err}
use Rattle.ipx_capture.specs.Place.{Place, Takes}
use Rattle.ipx_capture.specs.Records.{Record}
use Rattle.ipx_capture.specs.declared.capture_fault.CaptureFault.{CaptureFault}
use Rattle.ipx_capture.specs.declared.capture_fault.CaptureFault.TheVariants.{Read, Memory}

-- calls told these records, one by one
abbrev pub Calls : Place → List Record → Place → Type 0
Calls from [] to = to ≡ from
Calls from (r ∷ rs) to = (next : Place) × Takes from next (Ok (Some r)) × Calls next rs to

-- how the end of a capture is told
abbrev pub ending : Option CaptureFault → Result (Option Record) CaptureFault
ending None = Ok None
ending (Some fault) = Err fault

-- the end or the fault is the file's, not that of its reader or of the memory
abbrev pub IsOfFile : Option CaptureFault → Type 0
IsOfFile fault = (fault ≢ Some Read) × (fault ≢ Some Memory)
