-- The file of one record, cut behind its first bytes.
use Rattle.std.proofs.Common.{◌≡◌, [], refl, take, Some}
use Rattle.ipx_capture.specs.Header.{header_of}
use Rattle.ipx_capture.specs.Records.{Contents, records, first_record}
use Rattle.ipx_capture.specs.declared.capture_fault.CaptureFault.{CaptureFault}
use Rattle.ipx_capture.specs.declared.capture_fault.CaptureFault.TheVariants.{CutHeader, CutRecord}
use Rattle.ipx_capture.proofs.examples.Words.{little}

abbrev only : CaptureFault → Contents
only fault = record { records = []; fault = Some fault }

pub in_the_header : records (take 23 little) ≡ only CutHeader
unfolding header_of
in_the_header = refl

pub behind_a_byte : records (take 25 little) ≡ only CutRecord
unfolding header_of first_record
behind_a_byte = refl

pub behind_the_records_header : records (take 40 little) ≡ only CutRecord
unfolding header_of first_record
behind_the_records_header = refl

pub before_the_last_byte : records (take 93 little) ≡ only CutRecord
unfolding header_of first_record
before_the_last_byte = refl
