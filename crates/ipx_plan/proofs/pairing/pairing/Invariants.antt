use Rattle.std.proofs.Common.{◌≡◌, replicate, None}
use Rattle.ipx_plan.proofs.pairing.pairing.Given as goal

abbrev pub invariant-loop : goal.invariant-loop
invariant-loop g l = record {
  none : l.was.items ≡ replicate l.counter None;
}
