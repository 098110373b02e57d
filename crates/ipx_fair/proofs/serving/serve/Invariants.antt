use Rattle.std.proofs.Common.{◌≡◌, ◌+◌, ◌/◌, ◌<◌, ◌≤◌}
use Rattle.ipx_fair.specs.inside.Held.{Agrees}
use Rattle.ipx_fair.proofs.serving.serve.Given as goal

abbrev pub invariant-loop-tally : goal.invariant-loop-tally
invariant-loop-tally l = record {
  agrees : Agrees l.tally l.ends;
  setting : l.tally.setting ≡ l.initial.tally.setting;
  latest : l.tally.latest ≡ l.initial.tally.latest;
  forward : l.initial.tally.served ≤ l.tally.served;
  small : l.tally.served + l.rest ≤ l.initial.tally.served + l.time;
  used : l.time + l.tally.total ≡ l.rest + l.initial.tally.total;
  less : l.rest < l.tally.total;
  level : l.level ≡ l.rest / l.tally.waits;
}

abbrev pub decreases-loop-tally : goal.decreases-loop-tally
decreases-loop-tally l = l.rest
