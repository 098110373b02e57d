use Rattle.std.proofs.Common.{◌≡◌, ◌≤◌, length, map, take}
use Rattle.std.specs.List.{enumerate_from}
use Rattle.ipx_plan.specs.Pairing.{becomes}
use Rattle.ipx_plan.specs.Planned.{fate}
use Rattle.ipx_plan.proofs.plan.fates.Given as goal

abbrev pub invariant-loop-j : goal.invariant-loop-j
invariant-loop-j g l = record {
  made : l.fates.items ≡ map (λ p. fate l.old l.new l.cables (becomes l.was p.0) p.0 p.1) (enumerate_from 0 (take l.j l.old));
  few : length l.fates.items ≤ l.j;
}
