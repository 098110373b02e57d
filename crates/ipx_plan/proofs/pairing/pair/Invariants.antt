use Rattle.std.proofs.Common.{◌≡◌, length}
use Rattle.ipx_plan.specs.Likeness.{distance_at}
use Rattle.ipx_plan.specs.inside.Pairs.{with_links}
use Rattle.ipx_plan.proofs.pairing.pair.Given as goal

abbrev pub invariant-loop-k : goal.invariant-loop-k
invariant-loop-k l = l.was ≡ with_links (distance_at l.old l.new) (length l.old) l.distance l.initial.was l.k
