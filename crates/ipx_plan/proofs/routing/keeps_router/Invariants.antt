use Rattle.ipx_plan.proofs.Ports.{Compared}
use Rattle.ipx_plan.proofs.routing.keeps_router.Given as goal

abbrev pub invariant-loop-j : goal.invariant-loop-j
invariant-loop-j l = Compared l.old l.new l.j l.k
