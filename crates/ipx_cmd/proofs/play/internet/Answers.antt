use Rattle.ipx_cmd.specs.InternetMachine.{nothing_yet}
use Rattle.ipx_cmd.specs.inside.InternetStands.{IsStanding}
use Rattle.ipx_cmd.specs.WroteFront.{IsFaultOf}
use Rattle.ipx_cmd.proofs.cuts.WaysOut.{if_err_at}
use Rattle.ipx_cmd.proofs.play.internet.Goals as goal

pub returns-clause-fault : goal.returns-clause-fault
returns-clause-fault g c = if_err_at (IsStanding c.new.result) (IsFaultOf c.play_script.new.intake.failed c.play_script.new.outlet.failed) c.play_script.result nothing_yet c.new.ensures
    c.play_script.ensures.fault
