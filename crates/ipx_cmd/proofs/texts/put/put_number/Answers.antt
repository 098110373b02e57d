use Rattle.std.proofs.Common.{arith}
use Rattle.ipx_cmd.proofs.bytes.DigitsTwoAtATime.{decimal_hundreds, decimal_pair, after}
use Rattle.ipx_cmd.proofs.texts.put.put_number.Goals as goal

pub returns-clause-room : goal.returns-clause-room
returns-clause-room c =
    let much = c.if-number-lt10000.false in
    let small = c.ranges.number.fits in
    let hundreds = after _ _ _ _ _ _ c.put_digit-at.ensures.room c.put_pair-at.ensures.room (decimal_hundreds c.args.number (omega (arith, much)) (omega (arith, small))) in
    after _ _ _ _ _ _ hundreds c.put_pair.ensures.room (decimal_pair c.args.number (omega (arith, much)) (omega (arith, small)))
