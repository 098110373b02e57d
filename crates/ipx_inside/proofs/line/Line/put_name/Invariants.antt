use Rattle.std.proofs.Common.{◌≡◌, ◌+◌, ◌*◌, ◌≤◌, ◌++◌, take, length}
use Rattle.ipx_wire.specs.NameWord.{name_word}
use Rattle.ipx_inside.proofs.line.Line.put_name.Given as goal

abbrev pub invariant-loop-byte : goal.invariant-loop-byte
invariant-loop-byte l =
    (l.self ≡ l.initial.self ++ name_word (take l.byte-index l.name)) × (length l.self ≤ length l.initial.self + 3 * l.byte-index)
