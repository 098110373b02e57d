use Rattle.std.proofs.Common.{length}
use Rattle.ipx_cmd.proofs.cuts.BetweenTwoLines.{Midpiece}
use Rattle.ipx_cmd.proofs.player.Player.play.Given as goal

abbrev pub invariant-loop-front : goal.invariant-loop-front
invariant-loop-front g l = Midpiece g.M.Act.acts g.M.Act.stands l.fn.self.machine l.self.machine l.fn.self.number l.self.number l.fn.self.pending.items l.self.pending.items
    l.piece l.rest l.fn.outlet l.outlet l.fn.text.items l.text.items

abbrev pub decreases-loop-front : goal.decreases-loop-front
decreases-loop-front g l = length l.rest
