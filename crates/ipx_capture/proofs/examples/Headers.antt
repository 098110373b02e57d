-- Headers that are refused.
use Rattle.std.proofs.Common.{◌≡◌, [], ◌∷◌, ◌++◌, refl, drop, Some, Err}
use Rattle.ipx_capture.specs.Header.{header_of}
use Rattle.ipx_capture.specs.Records.{Contents, records, first_record}
use Rattle.ipx_capture.specs.declared.capture_fault.CaptureFault.{CaptureFault}
use Rattle.ipx_capture.specs.declared.capture_fault.CaptureFault.TheVariants.{CutHeader, Magic, Version, Link, RecordLong}
use Rattle.ipx_capture.proofs.examples.Words.{zeros, little, little_magic, little_fields, little_header}

-- no record, and a fault
abbrev only : CaptureFault → Contents
only fault = record { records = []; fault = Some fault }

pub no_bytes : records [] ≡ only CutHeader
unfolding header_of
no_bytes = refl

pub other_magic : records (0 ∷ drop 1 little) ≡ only Magic
unfolding header_of
other_magic = refl

pub other_version : records (little_magic ++ little_fields 3 1) ≡ only Version
unfolding header_of
other_version = refl

pub other_link : records (little_magic ++ little_fields 2 0) ≡ only Link
unfolding header_of
other_link = refl

-- the version is told before the link type
pub two_faults : header_of (little_magic ++ little_fields 3 0) ≡ Err Version
unfolding header_of
two_faults = refl

-- 262,145 bytes kept, and nothing behind the record's header
pub long_record : records (little_header ++ zeros ++ zeros ++ (1 ∷ 0 ∷ 4 ∷ 0 ∷ []) ++ zeros) ≡ only RecordLong
unfolding header_of first_record
long_record = refl
