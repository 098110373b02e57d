-- A whole recording: blocks one behind another, of which the first is a section's header.
use Rattle.std.specs.Prelude.{◌≡◌, ℕ, ◌+◌, ◌<◌, List, [], ◌∷◌, ◌++◌, length}
use Rattle.ipx_wire.specs.Piece.{piece}
use Rattle.ipx_capture.specs.declared.order.Order.{Order}
use Rattle.ipx_capture.specs.declared.order.Order.TheVariants.{Big}
use Rattle.ipx_recording.specs.Blocks.{IsSection, IsInterface, IsPacket, IsOther, mark}
use Rattle.ipx_recording.specs.Met.{most_interfaces}
use Rattle.ipx_recording.specs.Recorded.{Recorded}
use Rattle.ipx_recording.specs.declared.interface.Interface.{Interface}

-- where a block stands: the byte order of its section, the interfaces described before it, and the number of the next packet
pub record Place : Type 0 where
  pub order : Order
  pub interfaces : List Interface
  pub number : ℕ

-- a block at a place, the packet in it, and the place behind it
pub data IsBlock (here : Place) (block : List ℕ) : List Recorded → Place → Type 0 where
  section : {order : Order} → IsSection order block → IsBlock here block [] (record { order = order; interfaces = []; number = here.number })
  interface : {i : Interface} → IsInterface here.order i block → length here.interfaces < most_interfaces
      → IsBlock here block [] (record { order = here.order; interfaces = here.interfaces ++ i ∷ []; number = here.number })
  packet : {link wire : ℕ} {bytes : List ℕ} → IsPacket here.order here.interfaces link wire bytes block
      → IsBlock here block (record { number = here.number; link = link; wire = wire; bytes = bytes } ∷ [])
      (record { order = here.order; interfaces = here.interfaces; number = here.number + 1 })
  other : IsOther here.order block → IsBlock here block [] here

-- blocks one behind another from a place on, their packets, and the place behind them
pub data AreBlocks : Place → List ℕ → List Recorded → Place → Type 0 where
  none : {here : Place} → AreBlocks here [] [] here
  more : {here next end : Place} {block rest : List ℕ} {first later : List Recorded} → IsBlock here block first next → AreBlocks next rest later end
      → AreBlocks here (block ++ rest) (first ++ later) end

-- where a file begins: before its first section, whose kind reads the same in both byte orders
abbrev pub start : Place
start = record { order = Big; interfaces = []; number = 1 }

-- a recording and its packets: it begins with a section's header, and is blocks to its end
pub record IsFile (bytes : List ℕ) (records : List Recorded) : Type 0 where
  pub marked : piece bytes 0 4 ≡ mark
  pub end : Place
  pub blocks : AreBlocks start bytes records end
