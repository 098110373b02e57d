-- A recording is a chain of blocks: kind 4, length 4, what the kind says, and the length again, all of them in the byte order of their section
-- (pcapng, section "General File Structure"). It is read in parts: the fields of a block, its packet, what is left of it, and its length again.
use Rattle.std.specs.Prelude.{ℕ, ◌+◌, ◌-◌, ◌%◌, min, nat_lt, nat_le, Bool, ◌&&◌, ◌==◌, not, if◌then◌else◌, List, length, take, slice_get, Option, Some, None, Result, Ok, Err}
use Rattle.ipx_wire.specs.Piece.{piece}
use Rattle.ipx_capture.specs.Order.{u16_in, u32_in}
use Rattle.ipx_capture.specs.Records.{most_kept}
use Rattle.ipx_capture.specs.declared.order.Order.{Order}
use Rattle.ipx_capture.specs.declared.order.Order.TheVariants.{Big, Little}
use Rattle.ipx_recording.specs.declared.due.Due.{Due}
use Rattle.ipx_recording.specs.declared.due.Due.TheVariants.{Block, Packet, Rest}
use Rattle.ipx_recording.specs.declared.interface.Interface.{Interface}
use Rattle.ipx_recording.specs.declared.met.Met.{Met}
use Rattle.ipx_recording.specs.declared.met.Met.TheVariants.{Wants, Passed, Captured, Described, Section}
use Rattle.ipx_recording.specs.declared.recording_fault.RecordingFault.{RecordingFault}
use Rattle.ipx_recording.specs.declared.recording_fault.RecordingFault.TheVariants.{Magic, Version, BlockLength, NoInterface, ManyInterfaces, RecordLong, LengthAgain}

-- kinds of blocks: a section's header, an interface, and packets in three forms; any other is skipped
abbrev pub section_kind : ℕ
section_kind = 0x0A0D0D0A

abbrev pub interface_kind : ℕ
interface_kind = 1

abbrev pub old_packet_kind : ℕ
old_packet_kind = 2

abbrev pub simple_packet_kind : ℕ
simple_packet_kind = 3

abbrev pub packet_kind : ℕ
packet_kind = 6

-- how many interfaces a section has at most (own)
abbrev pub most_interfaces : ℕ
most_interfaces = 256

-- how many bytes of fields a block has, by its kind: they stand in front of options, of a packet's length on the wire, or of what nobody reads
abbrev pub section_front : ℕ
section_front = 24

abbrev pub interface_front : ℕ
interface_front = 16

abbrev pub packet_front : ℕ
packet_front = 24

abbrev pub simple_front : ℕ
simple_front = 8

abbrev pub other_front : ℕ
other_front = 8

-- a block's length has four bytes, and so has a packet's on the wire
abbrev pub length_size : ℕ
length_size = 4

-- how many bytes a block has at least: its fields and its length again, and for a packet its length on the wire; the packet's own bytes come on top
abbrev pub section_least : ℕ
section_least = 28

abbrev pub interface_least : ℕ
interface_least = 20

abbrev pub packet_least : ℕ
packet_least = 32

abbrev pub simple_least : ℕ
simple_least = 16

abbrev pub other_least : ℕ
other_least = 12

-- kind and length, as a block begins
abbrev pub kind_in : Order → List ℕ → ℕ
kind_in order bytes = u32_in order (piece bytes 0 4)

abbrev pub length_in : Order → List ℕ → ℕ
length_in order bytes = u32_in order (piece bytes 4 4)

-- how many bytes of a block say what it has
unfoldable pub fields_of : ℕ → ℕ
fields_of kind =
    if kind == section_kind then section_front
    else if kind == interface_kind then interface_front
    else if kind == simple_packet_kind then simple_front + length_size
    else if kind == packet_kind then packet_front
    else if kind == old_packet_kind then packet_front
    else other_front

-- a block's length is a multiple of four, and holds at least this much
abbrev pub is_length : ℕ → ℕ → Bool
is_length least n = nat_le least n && (n % 4 == 0)

-- the byte order in which these four bytes are 1A2B3C4Dh
abbrev pub order_by : List ℕ → Option Order
order_by four =
    if u32_in Big four == 0x1A2B3C4D then Some Big
    else if u32_in Little four == 0x1A2B3C4D then Some Little
    else None

-- a section's header: kind 4, length 4, byte order 4, version 2 and 2, length of the section 8; then options
abbrev pub section_in : Option Order → List ℕ → Result Met RecordingFault
section_in None front = Err Magic
section_in (Some order) front =
    if not (u16_in order (piece front 12 2) == 1) then Err Version
    else if not (is_length section_least (length_in order front)) then Err BlockLength
    else Ok (Section order (Rest (length_in order front - section_least) (length_in order front)))

abbrev pub section : List ℕ → Result Met RecordingFault
section front = section_in (order_by (piece front 8 4)) front

-- an interface: kind 4, length 4, link type 2, nothing 2, most bytes kept of a packet 4 (0 is no limit); then options
abbrev pub interface_in : Order → List Interface → List ℕ → Result Met RecordingFault
interface_in order interfaces front =
    if not (is_length interface_least (length_in order front)) then Err BlockLength
    else if nat_le most_interfaces (length interfaces) then Err ManyInterfaces
    else Ok (Described (record { link = u16_in order (piece front 8 2); most = u32_in order (piece front 12 4) }) (Rest (length_in order front - interface_least) (length_in order front)))

-- the packet of a block of this length, of which `around` bytes aren't the packet's; it begins `size` bytes from the block's first, with how long it was on the wire
abbrev pub packet_in : (around size kept n : ℕ) → Option Interface → Result Met RecordingFault
packet_in around size kept n None = Err NoInterface
packet_in around size kept n (Some i) =
    if nat_lt most_kept kept then Err RecordLong
    else if not (is_length (around + kept) n) then Err BlockLength
    else Ok (Passed size (Packet i.link kept (n - (around + kept)) n))

-- of a packet whose interface keeps so much, 0 for all of it
abbrev pub kept_by : ℕ → ℕ → ℕ
kept_by most wire = if most == 0 then wire else min most wire

-- a simple packet: kind 4, length 4, on the wire 4, and the packet, which is of the first interface
abbrev pub simple_in : Order → Option Interface → List ℕ → Result Met RecordingFault
simple_in order None front = Err NoInterface
simple_in order (Some i) front = packet_in simple_least simple_front (kept_by i.most (u32_in order (piece front 8 4))) (length_in order front) (Some i)

-- a block that shows nothing
abbrev pub skipped : ℕ → Result Met RecordingFault
skipped n = if not (is_length other_least n) then Err BlockLength else Ok (Passed other_front (Rest (n - other_least) n))

-- an enhanced packet: kind 4, length 4, interface 4, time 8, kept 4, on the wire 4, the packet; then options.
-- The old form has 2 bytes for the interface and 2 for packets lost
unfoldable pub block_in : Order → List Interface → List ℕ → Result Met RecordingFault
block_in order interfaces front =
    if kind_in order front == section_kind then section front
    else if kind_in order front == interface_kind then interface_in order interfaces front
    else if kind_in order front == simple_packet_kind then simple_in order (slice_get interfaces 0) front
    else if kind_in order front == packet_kind then
    packet_in packet_least packet_front (u32_in order (piece front 20 4)) (length_in order front) (slice_get interfaces (u32_in order (piece front 8 4)))
    else if kind_in order front == old_packet_kind then
    packet_in packet_least packet_front (u32_in order (piece front 20 4)) (length_in order front) (slice_get interfaces (u16_in order (piece front 8 2)))
    else skipped (length_in order front)

-- a block begins: its fields, once they are there
abbrev pub begins_block : Order → List Interface → List ℕ → Result Met RecordingFault
begins_block order interfaces bytes =
    if nat_lt (length bytes) other_front then Ok (Wants other_front)
    else if nat_lt (length bytes) (fields_of (kind_in order bytes)) then Ok (Wants (fields_of (kind_in order bytes)))
    else block_in order interfaces (take (fields_of (kind_in order bytes)) bytes)

-- at its end a block has its length again
abbrev pub length_again : Order → ℕ → List ℕ → Result Met RecordingFault
length_again order n bytes =
    if nat_lt (length bytes) length_size then Ok (Wants length_size)
    else if not (u32_in order (piece bytes 0 4) == n) then Err LengthAgain
    else Ok (Passed length_size Block)

-- what is left of a block is skipped, as far as it is there; then comes its length again
abbrev pub ends_block : Order → ℕ → ℕ → List ℕ → Result Met RecordingFault
ends_block order left n bytes =
    if left == 0 then length_again order n bytes
    else if length bytes == 0 then Ok (Wants 1)
    else Ok (Passed (min left (length bytes)) (Rest (left - min left (length bytes)) n))

-- a packet, once its bytes are there, behind how many it had on the wire
abbrev pub packet_at : Order → List ℕ → (link kept : ℕ) → Due → Met
packet_at order bytes link kept rest =
    if nat_lt (length bytes) (length_size + kept) then Wants (length_size + kept) else Captured link kept (u32_in order (piece bytes 0 4)) rest

-- what stands at the front of the bytes
unfoldable pub met : Order → List Interface → Due → List ℕ → Result Met RecordingFault
met order interfaces Block bytes = begins_block order interfaces bytes
met order interfaces (Packet link kept left n) bytes = Ok (packet_at order bytes link kept (Rest left n))
met order interfaces (Rest left n) bytes = ends_block order left n bytes
