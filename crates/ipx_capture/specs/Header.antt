-- The header of a capture file, 24 bytes: magic 4, version 2 and 2, zone 4, accuracy 4, longest record 4, link type 4.
use Rattle.std.specs.Prelude.{ℕ, Bool, ◌&&◌, ◌||◌, ◌==◌, nat_lt, if◌then◌else◌, not, List, length, Option, Some, None, Result, Ok, Err}
use Rattle.ipx_wire.specs.Piece.{piece}
use Rattle.ipx_capture.specs.Order.{u16_in, u32_in}
use Rattle.ipx_capture.specs.declared.capture_fault.CaptureFault.{CaptureFault}
use Rattle.ipx_capture.specs.declared.capture_fault.CaptureFault.TheVariants.{CutHeader, Magic, Version, Link}
use Rattle.ipx_capture.specs.declared.order.Order.{Order}
use Rattle.ipx_capture.specs.declared.order.Order.TheVariants.{Big, Little}

-- the number that begins a file with times in microseconds, or in nanoseconds
abbrev pub is_magic : ℕ → Bool
is_magic number = (number == 0xA1B2C3D4) || (number == 0xA1B23C4D)

-- the byte order in which the first four bytes are a magic number
abbrev pub order_of : List ℕ → Option Order
order_of magic =
    if is_magic (u32_in Big magic) then Some Big
    else if is_magic (u32_in Little magic) then Some Little
    else None

-- version 2.4, in two numbers
abbrev pub is_version : Order → List ℕ → List ℕ → Bool
is_version order major minor = (u16_in order major == 2) && (u16_in order minor == 4)

-- link type 1 is Ethernet
abbrev pub is_ethernet : Order → List ℕ → Bool
is_ethernet order link = u32_in order link == 1

-- what version and link type say, in the byte order of the magic
abbrev pub checked : Option Order → List ℕ → List ℕ → List ℕ → Result Order CaptureFault
checked None major minor link = Err Magic
checked (Some order) major minor link =
    if not (is_version order major minor) then Err Version
    else if not (is_ethernet order link) then Err Link
    else Ok order

-- how many bytes the header of a file has
abbrev pub header_size : ℕ
header_size = 24

-- what the header at the front of a file says: its byte order, or the first fault that holds; zone, accuracy and longest record say nothing
unfoldable pub header_of : List ℕ → Result Order CaptureFault
header_of bytes =
    if nat_lt (length bytes) header_size then Err CutHeader
    else checked (order_of (piece bytes 0 4)) (piece bytes 4 2) (piece bytes 6 2) (piece bytes 20 4)
