use Rattle.std.proofs.Common.{◌≡◌, ◌+◌, ◌*◌, ◌≤◌, ◌++◌, take, length}
use Rattle.ipx_wire.specs.NameWord.{name_word}
use Rattle.ipx_cmd.proofs.texts.put.put_name.Given as goal

abbrev pub invariant-loop-byte : goal.invariant-loop-byte
invariant-loop-byte l =
    (take l.end l.room ≡ take l.at l.initial.room ++ name_word (take l.byte-index l.name)) × (l.end ≤ l.at + 3 * l.byte-index) × (length l.room ≡ length l.initial.room)
