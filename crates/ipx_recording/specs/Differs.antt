-- Why a file is no recording: behind whole blocks stand bytes that begin with none, and the fault says why they don't.
use Rattle.std.specs.Prelude.{◌≡◌, ◌≢◌, ◌⊎◌, ℕ, ◌+◌, ◌-◌, ◌<◌, ◌≤◌, ◌%◌, nat_le, if◌then◌else◌, List, [], ◌∷◌, ◌++◌, length, slice_get, Some, None}
use Rattle.ipx_wire.specs.Piece.{piece}
use Rattle.ipx_capture.specs.Order.{u16_in, u32_in}
use Rattle.ipx_capture.specs.Records.{most_kept}
use Rattle.ipx_capture.specs.declared.order.Order.{Order}
use Rattle.ipx_recording.specs.Blocks.{Announces, mark}
use Rattle.ipx_recording.specs.Chain.{Place, AreBlocks, start}
use Rattle.ipx_recording.specs.Met.{section_kind, interface_kind, old_packet_kind, simple_packet_kind, packet_kind, most_interfaces, other_front, length_size, section_least, interface_least, other_least, fields_of, order_by, kind_in, length_in}
use Rattle.ipx_recording.specs.Recorded.{Recorded, header_size}
use Rattle.ipx_recording.specs.declared.interface.Interface.{Interface}
use Rattle.ipx_recording.specs.declared.recording_fault.RecordingFault.{RecordingFault}
use Rattle.ipx_recording.specs.declared.recording_fault.RecordingFault.TheVariants.{CutHeader, Magic, Version, BlockLength, NoInterface, ManyInterfaces, RecordLong, LengthAgain, CutBlock}

-- what a block is by its fields: it begins a section, describes an interface, keeps a packet, or is another
pub data BlockMeaning : Type 0 where
  Begins : (order : Order) → BlockMeaning
  Describes : BlockMeaning
  Keeps : (of : Interface) (front kept : ℕ) → BlockMeaning
  Nothing : BlockMeaning

-- the bytes begin with fields of this meaning
pub data Means (here : Place) (bytes : List ℕ) : BlockMeaning → Type 0 where
  section : {order : Order} → kind_in here.order bytes ≡ section_kind → order_by (piece bytes 8 4) ≡ Some order → u16_in order (piece bytes 12 2) ≡ 1
      → Means here bytes (Begins order)
  interface : kind_in here.order bytes ≡ interface_kind → Means here bytes Describes
  packet : {of : Interface} {front kept : ℕ} → Announces here.order here.interfaces bytes of front kept → Means here bytes (Keeps of front kept)
  other : kind_in here.order bytes ≢ section_kind → kind_in here.order bytes ≢ interface_kind → kind_in here.order bytes ≢ packet_kind
      → kind_in here.order bytes ≢ old_packet_kind → kind_in here.order bytes ≢ simple_packet_kind → Means here bytes Nothing

-- fields of a packet whose interface the section hasn't described
pub data IsOfNone (here : Place) (bytes : List ℕ) : Type 0 where
  enhanced : kind_in here.order bytes ≡ packet_kind → slice_get here.interfaces (u32_in here.order (piece bytes 8 4)) ≡ None → IsOfNone here bytes
  old : kind_in here.order bytes ≡ old_packet_kind → slice_get here.interfaces (u16_in here.order (piece bytes 8 2)) ≡ None → IsOfNone here bytes
  simple : kind_in here.order bytes ≡ simple_packet_kind → slice_get here.interfaces 0 ≡ None → IsOfNone here bytes

-- a section's header has its own byte order
abbrev pub order_of : Place → BlockMeaning → Order
order_of here (Begins order) = order
order_of here Describes = here.order
order_of here (Keeps of front kept) = here.order
order_of here Nothing = here.order

-- the length in the fields
abbrev pub size_in : Place → List ℕ → BlockMeaning → ℕ
size_in here bytes meaning = length_in (order_of here meaning) bytes

-- how many bytes a block of this meaning has at least
abbrev pub least : BlockMeaning → ℕ
least (Begins order) = section_least
least Describes = interface_least
least (Keeps of front kept) = front + length_size + kept + length_size
least Nothing = other_least

-- a block can have this length, or can't
pub record IsLength (fewest n : ℕ) : Type 0 where
  pub enough : fewest ≤ n
  pub fours : n % 4 ≡ 0

abbrev pub IsNoLength : ℕ → ℕ → Type 0
IsNoLength fewest n = (n < fewest) ⊎ (n % 4 ≢ 0)

-- a packet isn't longer than what may be kept
abbrev pub IsKept : BlockMeaning → Type 0
IsKept (Begins order) = Unit {0}
IsKept Describes = Unit {0}
IsKept (Keeps of front kept) = kept ≤ most_kept
IsKept Nothing = Unit {0}

-- an interface is one of the first 256
abbrev pub HasRoom : Place → BlockMeaning → Type 0
HasRoom here (Begins order) = Unit {0}
HasRoom here Describes = length here.interfaces < most_interfaces
HasRoom here (Keeps of front kept) = Unit {0}
HasRoom here Nothing = Unit {0}

-- the fields have a fault
pub data IsWrong (here : Place) (bytes : List ℕ) : RecordingFault → Type 0 where
  no_order : kind_in here.order bytes ≡ section_kind → order_by (piece bytes 8 4) ≡ None → IsWrong here bytes Magic
  other_version : {order : Order} → kind_in here.order bytes ≡ section_kind → order_by (piece bytes 8 4) ≡ Some order → u16_in order (piece bytes 12 2) ≢ 1
      → IsWrong here bytes Version
  of_none : IsOfNone here bytes → IsWrong here bytes NoInterface
  long : {of : Interface} {front kept : ℕ} → Means here bytes (Keeps of front kept) → most_kept < kept → IsWrong here bytes RecordLong
  no_length : {meaning : BlockMeaning} → Means here bytes meaning → IsKept meaning → IsNoLength (least meaning) (size_in here bytes meaning) → IsWrong here bytes BlockLength
  no_room : Means here bytes Describes → IsLength interface_least (size_in here bytes Describes) → most_interfaces ≤ length here.interfaces
      → IsWrong here bytes ManyInterfaces

-- the fields have none
pub record IsSound (here : Place) (bytes : List ℕ) (meaning : BlockMeaning) : Type 0 where
  pub means : Means here bytes meaning
  pub kept : IsKept meaning
  pub long : IsLength (least meaning) (size_in here bytes meaning)
  pub room : HasRoom here meaning

-- the packet of a block, if the file has all its bytes
abbrev pub shown : Place → List ℕ → BlockMeaning → List Recorded
shown here bytes (Begins order) = []
shown here bytes Describes = []
shown here bytes (Keeps of front kept) =
    if nat_le (front + length_size + kept) (length bytes) then
    record { number = here.number; link = of.link; wire = u32_in here.order (piece bytes front length_size); bytes = piece bytes (front + length_size) kept } ∷ [] else []
shown here bytes Nothing = []

-- the bytes of a file from a place on begin with no block: the packet in them, if it is whole, and the fault.
-- The file ends before the block's kind and length, among its fields, or before its end; the fields have a fault; or the length at the end is another
pub data Differs (here : Place) (bytes : List ℕ) : List Recorded → RecordingFault → Type 0 where
  no_kind : 0 < length bytes → length bytes < other_front → Differs here bytes [] CutBlock
  no_fields : other_front ≤ length bytes → length bytes < fields_of (kind_in here.order bytes) → Differs here bytes [] CutBlock
  wrong : {fault : RecordingFault} → other_front ≤ length bytes → fields_of (kind_in here.order bytes) ≤ length bytes → IsWrong here bytes fault → Differs here bytes [] fault
  cut : {meaning : BlockMeaning} → fields_of (kind_in here.order bytes) ≤ length bytes → IsSound here bytes meaning → length bytes < size_in here bytes meaning
      → Differs here bytes (shown here bytes meaning) CutBlock
  two_lengths : {meaning : BlockMeaning} → IsSound here bytes meaning → size_in here bytes meaning ≤ length bytes
      → u32_in (order_of here meaning) (piece bytes (size_in here bytes meaning - length_size) length_size) ≢ size_in here bytes meaning
      → Differs here bytes (shown here bytes meaning) LengthAgain

-- a file that is no recording, its packets in front of what differs, and its fault. It is too short, doesn't begin as one, or goes on behind whole blocks
-- with what is none
pub data IsRefused (bytes : List ℕ) : List Recorded → RecordingFault → Type 0 where
  short : length bytes < header_size → IsRefused bytes [] CutHeader
  unmarked : header_size ≤ length bytes → piece bytes 0 4 ≢ mark → IsRefused bytes [] Magic
  differs : {front rest : List ℕ} {before more : List Recorded} {here : Place} {fault : RecordingFault} → header_size ≤ length bytes → piece bytes 0 4 ≡ mark
      → bytes ≡ front ++ rest → AreBlocks start front before here → Differs here rest more fault → IsRefused bytes (before ++ more) fault
