-- A file of one record, in both byte orders and with both kinds of time.
use Rattle.std.proofs.Common.{◌≡◌, ℕ, List, [], ◌∷◌, ◌++◌, refl, take, Some, None}
use Rattle.ipx_capture.specs.Header.{header_of}
use Rattle.ipx_capture.specs.Records.{Record, Contents, records, first_record}
use Rattle.ipx_capture.specs.declared.capture_fault.CaptureFault.TheVariants.{CutRecord}
use Rattle.ipx_capture.proofs.examples.Words.{typed, zeros, little, little_header, little_record, little_fields}

-- the record of all these files
abbrev pub one : Record
one = record { number = 1; wire = 54; bytes = typed }

abbrev pub whole : Contents
whole = record { records = one ∷ []; fault = None }

pub little_end_first : records little ≡ whole
unfolding header_of first_record
little_end_first = refl

-- highest byte first
abbrev pub big : List ℕ
big =
    0xA1 ∷ 0xB2 ∷ 0xC3 ∷ 0xD4 ∷ 0 ∷ 2 ∷ 0 ∷ 4 ∷ [] ++ zeros ++ zeros ++ (0 ∷ 4 ∷ 0 ∷ 0 ∷ []) ++ (0 ∷ 0 ∷ 0 ∷ 1 ∷ [])
    ++ zeros ++ zeros ++ (0 ∷ 0 ∷ 0 ∷ 0x36 ∷ []) ++ (0 ∷ 0 ∷ 0 ∷ 0x36 ∷ []) ++ typed

pub big_end_first : records big ≡ whole
unfolding header_of first_record
big_end_first = refl

-- times in nanoseconds
pub nanoseconds : records (0x4D ∷ 0x3C ∷ 0xB2 ∷ 0xA1 ∷ [] ++ little_fields 2 1 ++ little_record ++ typed) ≡ whole
unfolding header_of first_record
nanoseconds = refl

-- ten further bytes are no record
pub ten_more : records (little ++ take 10 (zeros ++ zeros ++ zeros)) ≡ record { records = one ∷ []; fault = Some CutRecord }
unfolding header_of first_record
ten_more = refl

-- a record behind it has the number 2
pub two : records (little ++ little_record ++ typed) ≡ record { records = one ∷ record { number = 2; wire = 54; bytes = typed } ∷ []; fault = None }
unfolding header_of first_record
two = refl

-- a header alone has no record
pub none : records little_header ≡ record { records = []; fault = None }
unfolding header_of first_record
none = refl
