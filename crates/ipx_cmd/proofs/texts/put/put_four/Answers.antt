use Rattle.std.proofs.Common.{arith}
use Rattle.ipx_cmd.proofs.bytes.DigitsTwoAtATime.{decimal_pair, after}
use Rattle.ipx_cmd.proofs.texts.put.put_four.Goals as goal

pub returns-clause-room : goal.returns-clause-room
returns-clause-room c =
    after _ _ _ _ _ _ c.put_two-at.ensures.room c.put_pair.ensures.room (decimal_pair c.args.number (omega (arith, c.if-number-lt100.false)) (omega (arith, c.requires.small)))
