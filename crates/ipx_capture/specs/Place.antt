-- How far a capture has been read, and what a call of `next` does.
use Rattle.std.specs.Prelude.{◌≡◌, ℕ, ◌+◌, ◌<◌, ◌≤◌, true, false, List, [], ◌++◌, length, Option, Some, None, Result, Ok, Err, IsOk, OnOk}
use Rattle.std.specs.Borrow.{GName}
use Rattle.std.specs.Io.KnownBytes.{Consumes, IsAtEnd}
use Rattle.ipx_wire.specs.declared.source.Source.{Ghosts}
use Rattle.ipx_wire.specs.Ends.{Input}
use Rattle.ipx_capture.specs.Header.{header_of, header_size}
use Rattle.ipx_capture.specs.Reads.{most_calls, Gained}
use Rattle.ipx_capture.specs.Records.{Record, first_record, behind, is_ready, size_of_first}
use Rattle.ipx_capture.specs.Window.{Grows, least_room, most_room}
use Rattle.ipx_capture.specs.declared.capture.Captured.{Captured}
use Rattle.ipx_capture.specs.declared.capture.Capture.{Capture}
use Rattle.ipx_capture.specs.declared.capture_fault.CaptureFault.{CaptureFault}
use Rattle.ipx_capture.specs.declared.capture_fault.CaptureFault.TheVariants.{CutHeader, Magic, Version, Link, RecordLong, CutRecord, Read, Memory}
use Rattle.ipx_capture.specs.declared.order.Order.{Order}
use Rattle.ipx_capture.specs.declared.standing.Standing.{Standing}
use Rattle.ipx_capture.specs.declared.standing.Standing.TheVariants.{Open, Ended, Broken}

-- how far a capture has been read: its byte order, how many records were taken, which bytes the buffer has after them,
-- for how many bytes its buffer has memory, whether its end was told, and its intake
pub record Place : Type 0 where
  pub order : Order
  pub taken : ℕ
  pub ahead : List ℕ
  pub memory : ℕ
  pub standing : Standing
  pub input : Input

-- how far a capture has been read
abbrev pub place : {S : Type 0} {asking : Ghosts S} → Capture S asking → Place
place c = record { order = c.order; taken = c.taken; ahead = c.window.ahead; memory = c.window.memory; standing = c.standing; input = c.intake.now }

-- the name of the reference to the intake that a capture keeps
abbrev pub keeps : {S : Type 0} {asking : Ghosts S} → Capture S asking → GName
keeps c = c.intake.ghost_name

-- the record that was lent
abbrev pub record_of : Captured → Record
record_of c = record { number = c.number; wire = c.wire; bytes = c.bytes.now }

-- what a call of `next` told
abbrev pub told : Result (Option Captured) CaptureFault → Result (Option Record) CaptureFault
told (Ok None) = Ok None
told (Ok (Some c)) = Ok (Some (record_of c))
told (Err fault) = Err fault

-- how many records were taken then
abbrev pub taken_after : ℕ → Result (Option Record) CaptureFault → ℕ
taken_after n (Ok None) = n
taken_after n (Ok (Some r)) = n + 1
taken_after n (Err fault) = n

-- an end or a fault that was told stays so
abbrev pub standing_after : Result (Option Record) CaptureFault → Standing
standing_after (Ok None) = Ended
standing_after (Ok (Some r)) = Open
standing_after (Err fault) = Broken fault

-- what was told is what stands at the front of the bytes, where `rest` is left of them: the first record, the end, which is
-- the reader's, or a fault of the file; or else the intake failed, or no memory was left
abbrev pub Gives : Order → ℕ → List ℕ → List ℕ → Input → Result (Option Record) CaptureFault → Type 0
Gives order n bytes rest after (Ok (Some r)) = (first_record order n bytes ≡ Ok (Some r)) × (rest ≡ behind r bytes) × (after.failed ≡ false)
Gives order n bytes rest after (Ok None) = (bytes ≡ []) × (rest ≡ []) × IsAtEnd after.left × (after.failed ≡ false)
Gives order n bytes rest after (Err RecordLong) = (first_record order n bytes ≡ Err RecordLong) × (after.failed ≡ false)
Gives order n bytes rest after (Err CutRecord) = (first_record order n bytes ≡ Err CutRecord) × IsAtEnd after.left × (after.failed ≡ false)
Gives order n bytes rest after (Err Read) = after.failed ≡ true
Gives order n bytes rest after (Err Memory) = after.failed ≡ false
Gives order n bytes rest after (Err CutHeader) = ⊥
Gives order n bytes rest after (Err Magic) = ⊥
Gives order n bytes rest after (Err Version) = ⊥
Gives order n bytes rest after (Err Link) = ⊥

-- the bytes that the reader gave meanwhile follow those ahead, and the next record is taken from all of them; the reader isn't asked
-- where those ahead tell what comes next. The buffer grows no further than that record needs, and the fault of the memory is told only
-- where it had less room
pub record Takes (old new : Place) (answer : Result (Option Record) CaptureFault) : Type 0 where
  pub more : List ℕ
  pub read : Consumes old.input.left new.input.left more
  pub gives : Gives old.order (old.taken + 1) (old.ahead ++ more) new.ahead new.input answer
  pub taken : new.taken ≡ taken_after old.taken answer
  pub standing : new.standing ≡ standing_after answer
  pub order : new.order ≡ old.order
  pub still : is_ready old.order old.ahead ≡ true → new.input ≡ old.input
  pub gained : OnOk answer (Gained old.input new.input more)
  pub room : Grows (size_of_first old.order (old.ahead ++ more)) old.memory new.memory
  pub most : new.memory ≤ most_room
  pub refused : answer ≡ Err Memory → old.memory < size_of_first old.order (old.ahead ++ more)

-- the same where the end or a fault may have been told: it is told again, and nothing is read
abbrev pub Continues : Standing → Place → Place → Result (Option Record) CaptureFault → Type 0
Continues Open old new answer = Takes old new answer
Continues Ended old new answer = (answer ≡ Ok None) × (new ≡ old)
Continues (Broken fault) old new answer = (answer ≡ Err fault) × (new ≡ old)

-- what a call of `next` does
abbrev pub Nexts : Place → Place → Result (Option Record) CaptureFault → Type 0
Nexts old new answer = Continues old.standing old new answer

-- the header was taken from the bytes to come, and nothing more
pub record Begun (before after : Input) (order : Order) : Type 0 where
  pub header : List ℕ
  pub read : Consumes before.left after.left header
  pub size : length header ≡ header_size
  pub order_is : header_of header ≡ Ok order
  pub fine : after.failed ≡ false
  pub bounded : after.calls ≤ most_calls

-- a capture stands right behind its header
pub record Opened (before : Input) (p : Place) : Type 0 where
  pub begun : Begun before p.input p.order
  pub none : p.taken ≡ 0
  pub fresh : p.ahead ≡ []
  pub room : p.memory ≡ least_room
  pub goes_on : p.standing ≡ Open

-- the fault is that of the bytes; or else the intake failed, or behind a header no memory was left
abbrev pub NoHeader : List ℕ → Input → CaptureFault → Type 0
NoHeader bytes after CutHeader = (header_of bytes ≡ Err CutHeader) × IsAtEnd after.left × (after.failed ≡ false)
NoHeader bytes after Magic = (header_of bytes ≡ Err Magic) × (after.failed ≡ false)
NoHeader bytes after Version = (header_of bytes ≡ Err Version) × (after.failed ≡ false)
NoHeader bytes after Link = (header_of bytes ≡ Err Link) × (after.failed ≡ false)
NoHeader bytes after Read = after.failed ≡ true
NoHeader bytes after Memory = IsOk (header_of bytes) × (after.failed ≡ false)
NoHeader bytes after RecordLong = ⊥
NoHeader bytes after CutRecord = ⊥

-- bytes were read that are no header, or the capture couldn't be made
pub record Unopened (before after : Input) (fault : CaptureFault) : Type 0 where
  pub bytes : List ℕ
  pub read : Consumes before.left after.left bytes
  pub told : NoHeader bytes after fault
