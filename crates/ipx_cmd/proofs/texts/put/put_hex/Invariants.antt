use Rattle.std.proofs.Common.{◌≡◌, ◌+◌, ◌*◌, ◌++◌, take, length}
use Rattle.hex.specs.Hex.{encode_upper}
use Rattle.ipx_cmd.proofs.texts.put.put_hex.Given as goal

abbrev pub invariant-loop-byte : goal.invariant-loop-byte
invariant-loop-byte l =
    (take l.end l.room ≡ take l.at l.initial.room ++ encode_upper (take l.byte-index l.bytes)) × (l.end ≡ l.at + 2 * l.byte-index) × (length l.room ≡ length l.initial.room)
