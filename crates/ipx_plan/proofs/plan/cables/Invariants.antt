use Rattle.std.proofs.Common.{◌≡◌, ◌≤◌, length, map, take}
use Rattle.ipx_plan.proofs.plan.cables.Given as goal

abbrev pub invariant-loop-origin : goal.invariant-loop-origin
invariant-loop-origin g l = record {
  made : l.cables.items ≡ map (λ o. o.cable) (take l.origin-index l.origins);
  few : length l.cables.items ≤ l.origin-index;
}
