use Rattle.ipx_c.specs.PlanValues.{fate_record}
use Rattle.ipx_c.proofs.Filled.{Filled}
use Rattle.ipx_c.proofs.planning.put_fates.Given as goal

abbrev pub invariant-loop-j : goal.invariant-loop-j
invariant-loop-j l = Filled fate_record l.fates l.initial.to l.j l.to
