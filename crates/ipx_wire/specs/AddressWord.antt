-- An address as one word.
use Rattle.std.specs.Prelude.{ℕ, List, ◌++◌, codes}
use Rattle.std.specs.Int.{to_be_bytes, w16, w32}
use Rattle.hex.specs.Hex.{encode_upper}
use Rattle.ipx_wire.specs.declared.address.Address.{Address}

-- `NET.NODE.SOCKET`
unfoldable pub address_word : Address → List ℕ
address_word a =
    encode_upper (to_be_bytes w32 a.network.0) ++ codes "." ++ encode_upper a.node.0 ++ codes "." ++ encode_upper (to_be_bytes w16 a.socket.0)
