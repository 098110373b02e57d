use Rattle.std.proofs.Common.{◌-◌, length}
use Rattle.ipx_cmd.proofs.written.WrittenUpToAPlace.{WrittenTo}
use Rattle.ipx_cmd.proofs.texts.flushing.write_whole.Given as goal

abbrev pub invariant-loop-at : goal.invariant-loop-at
invariant-loop-at g l = WrittenTo l.fn.outlet l.outlet l.bytes l.at

abbrev pub decreases-loop-at : goal.decreases-loop-at
decreases-loop-at g l = length l.bytes - l.at
