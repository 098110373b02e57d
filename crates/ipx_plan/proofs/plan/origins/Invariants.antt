use Rattle.std.proofs.Common.{◌≡◌, ◌≤◌, length, map, take, get_or, None}
use Rattle.std.specs.List.{enumerate_from}
use Rattle.ipx_plan.specs.Planned.{origin}
use Rattle.ipx_plan.proofs.plan.origins.Given as goal

abbrev pub invariant-loop-k : goal.invariant-loop-k
invariant-loop-k g l = record {
  made : l.origins.items ≡ map (λ p. origin l.old l.new (get_or l.was p.0 None) p.0 p.1) (enumerate_from 0 (take l.k l.new));
  few : length l.origins.items ≤ l.k;
}
