-- An address, twelve bytes: network 4, node 6, socket 2.
use Rattle.std.specs.Prelude.{◌≡◌, ℕ, ◌+◌, ◌^◌, ◌<◌, List, ◌++◌, length}
use Rattle.std.specs.Int.{to_be_bytes, from_be_bytes, w16, w32}
use Rattle.ipx_wire.specs.Piece.{piece}
use Rattle.ipx_wire.specs.declared.address.Address.{Address}

-- network and socket are numbers of their widths, and the node has six bytes
pub record IsAddress (a : Address) : Type 0 where
  pub network : a.network.0 < 2 ^ 32
  pub node : length a.node.0 ≡ 6
  pub socket : a.socket.0 < 2 ^ 16

-- the twelve bytes of an address, each field with its highest byte first
unfoldable pub address_bytes : Address → List ℕ
address_bytes a = to_be_bytes w32 a.network.0 ++ a.node.0 ++ to_be_bytes w16 a.socket.0

-- the address in the twelve bytes from a place on
unfoldable pub address_at : List ℕ → ℕ → Address
address_at bytes place = record {
  network = record { 0 = from_be_bytes w32 (piece bytes place 4) };
  node = record { 0 = piece bytes (place + 4) 6 };
  socket = record { 0 = from_be_bytes w16 (piece bytes (place + 10) 2) };
}
