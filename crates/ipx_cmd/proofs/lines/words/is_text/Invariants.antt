use Rattle.std.proofs.Common.{◌≡◌, take}
use Rattle.std.specs.List.{list_all}
use Rattle.ipx_cmd.specs.Words.{is_text_byte}
use Rattle.ipx_cmd.proofs.lines.words.is_text.Given as goal

abbrev pub invariant-loop-byte : goal.invariant-loop-byte
invariant-loop-byte l = l.fine ≡ list_all is_text_byte (take l.byte-index l.line)
