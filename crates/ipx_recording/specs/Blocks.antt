-- Whole blocks, as they lie in a file (pcapng, sections on each block): fields, what is left to the end of the block, and the length again.
use Rattle.std.specs.Prelude.{◌≡◌, ◌≢◌, ℕ, ◌≤◌, ◌%◌, List, [], ◌∷◌, ◌++◌, length, slice_get, Some}
use Rattle.ipx_wire.specs.Piece.{piece}
use Rattle.ipx_capture.specs.Order.{u16_in, u32_in}
use Rattle.ipx_capture.specs.Records.{most_kept}
use Rattle.ipx_capture.specs.declared.order.Order.{Order}
use Rattle.ipx_recording.specs.Met.{section_kind, interface_kind, old_packet_kind, simple_packet_kind, packet_kind, section_front, interface_front, packet_front, simple_front, other_front, length_size, order_by, kind_in, length_in, kept_by}
use Rattle.ipx_recording.specs.Recorded.{State}
use Rattle.ipx_recording.specs.declared.due.Due.TheVariants.{Block}
use Rattle.ipx_recording.specs.declared.interface.Interface.{Interface}

-- a block of so many bytes has its length behind its kind and at its end, and it is a multiple of four
pub record IsLong (order : Order) (front again : List ℕ) (size : ℕ) : Type 0 where
  pub four : length again ≡ length_size
  pub fours : size % 4 ≡ 0
  pub in_front : length_in order front ≡ size
  pub at_end : u32_in order again ≡ size

-- what a section's header begins with, in either byte order
abbrev pub mark : List ℕ
mark = 0x0A ∷ 0x0D ∷ 0x0D ∷ 0x0A ∷ []

-- a section's header in a byte order: 24 bytes of fields, and options
pub record IsSection (order : Order) (block : List ℕ) : Type 0 where
  pub front : List ℕ
  pub options : List ℕ
  pub again : List ℕ
  pub layout : block ≡ front ++ (options ++ again)
  pub fields : length front ≡ section_front
  pub mark_is : piece front 0 4 ≡ mark
  pub order_is : order_by (piece front 8 4) ≡ Some order
  pub version : u16_in order (piece front 12 2) ≡ 1
  pub long : IsLong order front again (length block)

-- an interface: 16 bytes of fields, and options
pub record IsInterface (order : Order) (i : Interface) (block : List ℕ) : Type 0 where
  pub front : List ℕ
  pub options : List ℕ
  pub again : List ℕ
  pub layout : block ≡ front ++ (options ++ again)
  pub fields : length front ≡ interface_front
  pub kind : kind_in order front ≡ interface_kind
  pub link : u16_in order (piece front 8 2) ≡ i.link
  pub most : u32_in order (piece front 12 4) ≡ i.most
  pub long : IsLong order front again (length block)

-- the three forms of a packet's block: which interface it is of, how many bytes of fields it has, and how many bytes of the packet are kept.
-- The old form has 2 bytes for the interface; a simple packet is of the first one, and keeps what that keeps
pub data Announces (order : Order) (interfaces : List Interface) (block : List ℕ) : Interface → (front kept : ℕ) → Type 0 where
  enhanced : {of : Interface} → kind_in order block ≡ packet_kind → slice_get interfaces (u32_in order (piece block 8 4)) ≡ Some of
      → Announces order interfaces block of packet_front (u32_in order (piece block 20 4))
  old : {of : Interface} → kind_in order block ≡ old_packet_kind → slice_get interfaces (u16_in order (piece block 8 2)) ≡ Some of
      → Announces order interfaces block of packet_front (u32_in order (piece block 20 4))
  simple : {of : Interface} → kind_in order block ≡ simple_packet_kind → slice_get interfaces 0 ≡ Some of
      → Announces order interfaces block of simple_front (kept_by of.most (u32_in order (piece block 8 4)))

-- a packet of an interface: fields, how many bytes it had on the wire, those that are kept, and padding with options
pub record IsPacket (order : Order) (interfaces : List Interface) (link wire : ℕ) (bytes block : List ℕ) : Type 0 where
  pub front : List ℕ
  pub on_wire : List ℕ
  pub options : List ℕ
  pub again : List ℕ
  pub layout : block ≡ front ++ ((on_wire ++ bytes) ++ (options ++ again))
  pub four : length on_wire ≡ length_size
  pub of : Interface
  pub fields : Announces order interfaces block of (length front) (length bytes)
  pub link_is : link ≡ of.link
  pub wire_is : u32_in order on_wire ≡ wire
  pub few : length bytes ≤ most_kept
  pub long : IsLong order front again (length block)

-- a block of none of these kinds: 8 bytes of fields, and what nobody reads
pub record IsOther (order : Order) (block : List ℕ) : Type 0 where
  pub front : List ℕ
  pub content : List ℕ
  pub again : List ℕ
  pub layout : block ≡ front ++ (content ++ again)
  pub fields : length front ≡ other_front
  pub no_section : kind_in order front ≢ section_kind
  pub no_interface : kind_in order front ≢ interface_kind
  pub no_packet : kind_in order front ≢ packet_kind
  pub no_old_packet : kind_in order front ≢ old_packet_kind
  pub no_simple_packet : kind_in order front ≢ simple_packet_kind
  pub long : IsLong order front again (length block)

-- a file is between two blocks of a section of this byte order, with these interfaces
abbrev pub between : Order → List Interface → State
between order interfaces = record { order = order; interfaces = interfaces; due = Block }
