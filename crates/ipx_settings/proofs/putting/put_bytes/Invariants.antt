use Rattle.std.proofs.Common.{◌≡◌, ◌+◌, ◌*◌, ◌++◌, length, take}
use Rattle.ipx_settings.specs.WritingLines.{bytes_digits}
use Rattle.ipx_settings.proofs.putting.put_bytes.Given as goal

abbrev pub invariant-loop-byte : goal.invariant-loop-byte
invariant-loop-byte l =
    (take l.end l.room ≡ take l.initial.end l.initial.room ++ bytes_digits (take l.byte-index l.bytes))
    × (l.end ≡ l.initial.end + 2 * l.byte-index) × (length l.room ≡ length l.initial.room)
