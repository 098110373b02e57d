use Rattle.ipx_cmd.proofs.cuts.LastLine.{finished_line, off_last}
use Rattle.ipx_cmd.proofs.cuts.WaysOut.{if_err, on_ok}
use Rattle.ipx_cmd.proofs.player.act_on_last.Goals as goal

pub returns-clause-finished : goal.returns-clause-finished
returns-clause-finished g c =
    on_ok c.act.result c.act.ensures.acted (λ acted state number now. finished_line number c.requires.line c.requires.some (rw c.without_return.ensures at acted state now))

pub returns-clause-off : goal.returns-clause-off
returns-clause-off g c = if_err c.act.result c.act.ensures.halted (λ halt halted state number now. off_last g.M.Act.acts state number c.args.line.now c.args.outlet.now c.act.new.outlet
    c.args.text.now.items c.act.new.text.items halt c.requires.outlet c.requires.line c.requires.some (rw c.without_return.ensures at halted state now))
