use Rattle.std.proofs.Common.{◌∙◌, ◌<◌, ◌+◌, get_or, arith}
use Rattle.std.specs.Char.{digit_value}
use Rattle.ipx_settings.proofs.Digits.{next_value, much_whole, too_much, one_more, is_low}
use Rattle.ipx_settings.proofs.numbers.value.Goals as goal

pub returns-then-value-from : goal.returns-then-value-from
returns-then-value-from c =
    let n = next_value c.args.base c.args.word.now c.loop-byte.byte-index c.loop-byte.value c.from-next.result c.loop-byte-test.true c.loop-byte.invariant.0 (c.from-next.ensures ∙ c.digit.ensures) in
    too_much _ _ _ (much_whole c.args.base c.args.word.now (c.loop-byte.byte-index + 1) c.args.most (omega (arith, c.requires.base)) (omega (arith, n, c.if-value-from.true, c.from.ensures)))

pub loop-byte-preserved : goal.loop-byte-preserved
loop-byte-preserved c =
    let n = next_value c.args.base c.args.word.now c.loop-byte.byte-index c.loop-byte.value c.from-next.result c.loop-byte-test.true c.loop-byte.invariant.0 (c.from-next.ensures ∙ c.digit.ensures) in
    let low : digit_value (get_or c.args.word.now c.loop-byte.byte-index 0) < c.args.base = omega (arith, c.from-next.ensures, c.digit.ensures, c.if-next-base.false) in
    (n, one_more c.args.base c.args.word.now c.loop-byte.byte-index c.loop-byte-test.true c.loop-byte.invariant.1 ∙ is_low c.args.base (get_or c.args.word.now c.loop-byte.byte-index 0) low, omega (arith, c.if-value-from.false, c.from.ensures))
