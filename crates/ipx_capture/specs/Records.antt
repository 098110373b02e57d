-- The records of a capture file. Each has a header of 16 bytes (seconds 4, fraction 4, number of bytes kept 4, of bytes on the wire 4) and then the bytes kept.
use Rattle.std.specs.Prelude.{ℕ, zero, suc, ◌+◌, nat_eq, nat_lt, nat_le, Bool, ◌&&◌, ◌||◌, if◌then◌else◌, List, [], ◌∷◌, length, drop, Option, Some, None, Result, Ok, Err}
use Rattle.ipx_wire.specs.Piece.{piece}
use Rattle.ipx_capture.specs.Order.{u32_in}
use Rattle.ipx_capture.specs.Header.{header_of, header_size}
use Rattle.ipx_capture.specs.declared.capture_fault.CaptureFault.{CaptureFault}
use Rattle.ipx_capture.specs.declared.capture_fault.CaptureFault.TheVariants.{CutRecord, RecordLong}
use Rattle.ipx_capture.specs.declared.order.Order.{Order}

-- a record: its number in the file, from 1, how many bytes were on the wire, and the bytes kept
pub record Record : Type 0 where
  pub number : ℕ
  pub wire : ℕ
  pub bytes : List ℕ

-- the records of a capture, and its end: whole, or a fault
pub record Contents : Type 0 where
  pub records : List Record
  pub fault : Option CaptureFault

-- how many bytes the header of a record has
abbrev pub record_header : ℕ
record_header = 16

-- how many bytes a record keeps at most
abbrev pub most_kept : ℕ
most_kept = 262144

-- how many bytes the record at the front keeps
abbrev pub kept_count : Order → List ℕ → ℕ
kept_count order bytes = u32_in order (piece bytes 8 4)

-- how many of its bytes were on the wire
abbrev pub wire_count : Order → List ℕ → ℕ
wire_count order bytes = u32_in order (piece bytes 12 4)

-- the record at the front of the bytes behind the header or a record, with the number n: none directly at the end; a fault where
-- the bytes end inside it, or as soon as its header says that it is too long
unfoldable pub first_record : Order → ℕ → List ℕ → Result (Option Record) CaptureFault
first_record order n bytes =
    if nat_eq (length bytes) 0 then Ok None
    else if nat_lt (length bytes) record_header then Err CutRecord
    else if nat_lt most_kept (kept_count order bytes) then Err RecordLong
    else if nat_lt (length bytes) (record_header + kept_count order bytes) then Err CutRecord
    else Ok (Some (record { number = n; wire = wire_count order bytes; bytes = piece bytes record_header (kept_count order bytes) }))

-- whether the bytes tell what stands at their front, whatever follows: a record that is there whole, or one that is too long
abbrev pub is_ready : Order → List ℕ → Bool
is_ready order bytes = nat_le record_header (length bytes) && (nat_lt most_kept (kept_count order bytes) || nat_le (record_header + kept_count order bytes) (length bytes))

-- how many bytes the record at the front takes with its header: only this where it isn't whole, or says that the record is too long
abbrev pub size_of_first : Order → List ℕ → ℕ
size_of_first order bytes =
    record_header + (if nat_le record_header (length bytes) && nat_le (kept_count order bytes) most_kept then kept_count order bytes else 0)

-- the bytes behind a record at their front
abbrev pub behind : Record → List ℕ → List ℕ
behind r bytes = drop (record_header + length r.bytes) bytes

-- a record before others
abbrev pub before : Record → Contents → Contents
before r c = record { records = r ∷ c.records; fault = c.fault }

-- what was met at the front of bytes, and the records that follow a record
abbrev pub from_front : Result (Option Record) CaptureFault → (Record → Contents) → Contents
from_front (Err fault) following = record { records = []; fault = Some fault }
from_front (Ok None) following = record { records = []; fault = None }
from_front (Ok (Some r)) following = before r (following r)

-- the records of the bytes behind a header, numbered from n, where there are fewer of them than `most`
abbrev pub records_from : (most : ℕ) → Order → ℕ → List ℕ → Contents
records_from zero order n bytes = record { records = []; fault = None }
records_from (suc most) order n bytes = from_front (first_record order n bytes) (λ r. records_from most order (n + 1) (behind r bytes))

-- the records behind a header, or none where that has a fault
abbrev pub behind_header : Result Order CaptureFault → List ℕ → Contents
behind_header (Err fault) bytes = record { records = []; fault = Some fault }
behind_header (Ok order) bytes = records_from (suc (length bytes)) order 1 (drop header_size bytes)

-- the records of a capture file
abbrev pub records : List ℕ → Contents
records bytes = behind_header (header_of bytes) bytes
