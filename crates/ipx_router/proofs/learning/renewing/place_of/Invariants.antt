use Rattle.std.proofs.Common.{◌+◌, ◌≤◌, length}
use Rattle.ipx_router.proofs.learning.renewing.place_of.Given as goal

abbrev pub invariant-loop-size : goal.invariant-loop-size
invariant-loop-size l = l.low + l.size ≤ length l.offers

abbrev pub decreases-loop-size : goal.decreases-loop-size
decreases-loop-size l = l.size
