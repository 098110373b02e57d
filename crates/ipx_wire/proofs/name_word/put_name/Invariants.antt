use Rattle.std.proofs.Common.{◌≡◌, ◌*◌, ◌≤◌, take}
use Rattle.ipx_wire.specs.NameWord.{name_word}
use Rattle.ipx_wire.proofs.name_word.put_name.Given as goal

abbrev pub invariant-loop-byte : goal.invariant-loop-byte
invariant-loop-byte l =
    (take l.count l.room ≡ name_word (take l.byte-index l.name)) × (l.count ≤ 3 * l.byte-index)
