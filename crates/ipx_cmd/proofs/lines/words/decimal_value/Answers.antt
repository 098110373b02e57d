use Rattle.std.proofs.Common.{arith}
use Rattle.ipx_cmd.proofs.bytes.Numbers.{at_digit}
use Rattle.ipx_cmd.proofs.lines.words.decimal_value.Goals as goal

pub overflow_mul-value : goal.overflow_mul-value
overflow_mul-value c =
    let digit = at_digit c.args.word.now c.loop-digit.digit-index c.requires c.loop-digit-test.true in
    omega (arith, digit.small, c.loop-digit.invariant)

pub overflow_add-value : goal.overflow_add-value
overflow_add-value c =
    let digit = at_digit c.args.word.now c.loop-digit.digit-index c.requires c.loop-digit-test.true in
    omega (arith, digit.small, digit.high, c.loop-digit.invariant)

pub loop-digit-preserved : goal.loop-digit-preserved
loop-digit-preserved c =
    let digit = at_digit c.args.word.now c.loop-digit.digit-index c.requires c.loop-digit-test.true in
    rw digit.next (omega (arith, c.loop-digit.invariant))
