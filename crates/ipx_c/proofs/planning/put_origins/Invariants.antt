use Rattle.ipx_c.specs.PlanValues.{origin_record}
use Rattle.ipx_c.proofs.Filled.{Filled}
use Rattle.ipx_c.proofs.planning.put_origins.Given as goal

abbrev pub invariant-loop-k : goal.invariant-loop-k
invariant-loop-k l = Filled origin_record l.origins l.initial.to l.k l.to
