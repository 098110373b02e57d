use Rattle.std.proofs.Common.{◌≡◌, ◌≤◌, take}
use Rattle.ipx_fair.specs.Queues.{waiting, lowered}
use Rattle.ipx_fair.specs.inside.Held.{Spares}
use Rattle.ipx_fair.proofs.serving.recount.Given as goal

abbrev pub invariant-loop-end : goal.invariant-loop-end
invariant-loop-end l = record {
  waits : l.waits ≡ waiting (lowered l.tally.served (take l.end-index l.ends));
  spares : Spares l.spare (lowered l.tally.served (take l.end-index l.ends));
  few : l.waits ≤ l.end-index;
}
