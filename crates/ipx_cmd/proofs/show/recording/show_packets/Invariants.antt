use Rattle.std.proofs.Common.{◌+◌, ◌-◌, ◌*◌, length}
use Rattle.ipx_cmd.proofs.recordings.BetweenTwoParts.{Between}
use Rattle.ipx_cmd.proofs.show.recording.show_packets.Given as goal

abbrev pub invariant-loop-size : goal.invariant-loop-size
invariant-loop-size g l =
    Between l.fn.recording l.fn.intake l.intake l.fn.outlet l.outlet l.recording l.window.ahead l.text.items l.shown

abbrev pub decreases-loop-size : goal.decreases-loop-size
decreases-loop-size g l = 262161 * (16777216 - l.intake.calls) + length l.window.ahead
