-- The header of a packet, thirty bytes (IPX Router Specification).
use Rattle.std.specs.Prelude.{ℕ, ◌^◌, ◌<◌, List, [], ◌∷◌, ◌++◌, slice_index}
use Rattle.std.specs.Int.{to_be_bytes, from_be_bytes, w16}
use Rattle.ipx_wire.specs.Piece.{piece}
use Rattle.ipx_wire.specs.Address.{IsAddress, address_bytes, address_at}
use Rattle.ipx_wire.specs.declared.header.Header.{Header}

-- each field is a number of its width
pub record IsHeader (h : Header) : Type 0 where
  pub checksum : h.checksum < 2 ^ 16
  pub length : h.length < 2 ^ 16
  pub control : h.control < 256
  pub kind : h.kind < 256
  pub destination : IsAddress h.destination
  pub source : IsAddress h.source

-- the thirty bytes: checksum 2, length 2, transport control 1, packet type 1, destination 12, source 12
unfoldable pub header_bytes : Header → List ℕ
header_bytes h =
    to_be_bytes w16 h.checksum ++ to_be_bytes w16 h.length ++ (h.control ∷ []) ++ (h.kind ∷ [])
    ++ address_bytes h.destination ++ address_bytes h.source

-- the number in the place of the length
abbrev pub length_field : List ℕ → ℕ
length_field bytes = from_be_bytes w16 (piece bytes 2 2)

-- the header in the first thirty bytes
unfoldable pub header_at : List ℕ → Header
header_at bytes = record {
  checksum = from_be_bytes w16 (piece bytes 0 2);
  length = length_field bytes;
  control = slice_index bytes 4;
  kind = slice_index bytes 5;
  destination = address_at bytes 6;
  source = address_at bytes 18;
}
