use Rattle.ipx_cmd.proofs.cuts.StretchBehindStretch.{off_line, went_line}
use Rattle.ipx_cmd.proofs.cuts.WaysOut.{if_err, on_ok}
use Rattle.ipx_cmd.proofs.player.act_on.Goals as goal

pub returns-clause-went : goal.returns-clause-went
returns-clause-went g c = on_ok c.act.result c.act.ensures.acted (λ acted state number now. went_line number c.requires.line (rw c.without_return.ensures at acted state now))

pub returns-clause-off : goal.returns-clause-off
returns-clause-off g c = if_err c.act.result c.act.ensures.halted (λ halt halted state number now. off_line g.M.Act.acts state number c.args.line.now c.args.outlet.now c.act.new.outlet
    c.args.text.now.items c.act.new.text.items halt c.requires.outlet c.requires.line (rw c.without_return.ensures at halted state now))
