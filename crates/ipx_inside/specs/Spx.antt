-- The Sequenced Packet Exchange: what a payload says (Novell's published description of SPX and SPX II).
use Rattle.std.specs.Prelude.{ℕ, ◌==◌, ◌/◌, ◌%◌, nat_lt, if◌then◌else◌, List, length, slice_index, Option, Some, None}
use Rattle.std.specs.Int.{from_be_bytes, w16}
use Rattle.ipx_wire.specs.Piece.{piece}
use Rattle.ipx_inside.specs.declared.spx.Size.{Size}
use Rattle.ipx_inside.specs.declared.spx.Size.TheVariants.{Absent, Cut, Number}
use Rattle.ipx_inside.specs.declared.spx.Spx.{Spx}

-- the size in two bytes behind the header, where the bit 08h says that the packet is one of SPX II
abbrev pub size_at : List ℕ → Size
size_at payload =
    if slice_index payload 0 / 8 % 2 == 1 then (if nat_lt (length payload) 14 then Cut else Number (from_be_bytes w16 (piece payload 12 2)))
    else Absent

-- the header, twelve bytes: connection control 1, data stream type 1, source 2, destination 2, sequence 2, acknowledge 2, allocation 2
unfoldable pub spx_at : List ℕ → Spx
spx_at payload = record {
  control = slice_index payload 0;
  stream = slice_index payload 1;
  source = from_be_bytes w16 (piece payload 2 2);
  destination = from_be_bytes w16 (piece payload 4 2);
  sequence = from_be_bytes w16 (piece payload 6 2);
  acknowledge = from_be_bytes w16 (piece payload 8 2);
  allocation = from_be_bytes w16 (piece payload 10 2);
  size = size_at payload;
}

-- what a payload says; nothing, if it ends before the header does
unfoldable pub spx_of : List ℕ → Option Spx
spx_of payload = if nat_lt (length payload) 12 then None else Some (spx_at payload)
