use Rattle.std.proofs.Common.{◌≡◌, None}
use Rattle.ipx_plan.specs.Likeness.{distance_at}
use Rattle.ipx_plan.specs.inside.Pairs.{is_free, first_below}
use Rattle.ipx_plan.proofs.pairing.first_free.Given as goal

abbrev pub invariant-loop-j : goal.invariant-loop-j
invariant-loop-j l = first_below (is_free (distance_at l.old l.new) l.distance l.was l.k) l.j ≡ None
