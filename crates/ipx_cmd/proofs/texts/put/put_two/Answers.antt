use Rattle.std.proofs.Common.{List, ℕ, ◌++◌, sym, ap, ◌∙◌, arith, take}
use Rattle.ipx_cmd.proofs.bytes.DigitsTwoAtATime.{decimal_two}
use Rattle.ipx_cmd.proofs.texts.put.put_two.Goals as goal

pub returns-clause-room : goal.returns-clause-room
returns-clause-room c =
    c.put_pair.ensures.room ∙ ap (λ (t : List ℕ). take c.args.at c.args.room.now ++ t) (sym (decimal_two c.args.number (omega (arith, c.if-number-lt10.false)) c.requires.small))
