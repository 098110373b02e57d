use Rattle.std.proofs.Common.{rules, arith, subst, sym, ◌∙◌, append-nil, decimal}
use Rattle.std.proofs.lemmas.Fmt.{length-decimal-le, IsAscii-decimal}
use Rattle.std.specs.Str.{IsAscii}
use Rattle.ipx_inside.proofs.line.Line.put_number.Goals as goal

pub write_digits-first-requires : goal.write_digits-first-requires
write_digits-first-requires c = search (rules, length-decimal-le 10)

pub put_ascii-requires-clause-ascii : goal.put_ascii-requires-clause-ascii
put_ascii-requires-clause-ascii c =
    subst IsAscii
    (sym (c.split_at.ensures.back ∙ c.write_digits-first.ensures.written ∙ append-nil (decimal c.from.result)))
    (IsAscii-decimal c.from.result (omega (arith, c.from.ensures, c.ranges.number.fits)))
