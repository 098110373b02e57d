-- A service as words: its type, its name, where it is offered and how far away.
use Rattle.std.specs.Prelude.{ℕ, List, ◌++◌, codes, decimal}
use Rattle.std.specs.Int.{to_be_bytes, w16, w32}
use Rattle.hex.specs.Hex.{encode_upper}
use Rattle.ipx_wire.specs.NameWord.{name_word}
use Rattle.ipx_wire.specs.declared.address.Address.{Address}
use Rattle.ipx_wire.specs.declared.service.Service.{Service}

-- ` NET NODE SOCKET HOPS`
unfoldable pub offered_words : Address → ℕ → List ℕ
offered_words a hops =
    codes " " ++ encode_upper (to_be_bytes w32 a.network.0) ++ codes " " ++ encode_upper a.node.0 ++ codes " "
    ++ encode_upper (to_be_bytes w16 a.socket.0) ++ codes " " ++ decimal hops

-- `service TYPE NAME NET NODE SOCKET HOPS`
unfoldable pub service_words : Service → List ℕ
service_words s =
    codes "service " ++ encode_upper (to_be_bytes w16 s.kind) ++ codes " " ++ name_word s.name ++ offered_words s.address s.hops
