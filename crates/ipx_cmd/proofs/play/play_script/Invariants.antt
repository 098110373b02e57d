use Rattle.std.proofs.Common.{◌-◌}
use Rattle.ipx_cmd.proofs.cuts.BetweenTwoPieces.{MidScript}
use Rattle.ipx_cmd.proofs.play.play_script.Given as goal

abbrev pub invariant-loop-count : goal.invariant-loop-count
invariant-loop-count g l = MidScript g.M.Act.acts g.M.Act.stands l.fn.machine l.player.machine l.player.number l.player.pending.items l.fn.intake l.intake l.fn.outlet l.outlet
    l.text.items

abbrev pub decreases-loop-count : goal.decreases-loop-count
decreases-loop-count g l = 16777216 - l.intake.calls
