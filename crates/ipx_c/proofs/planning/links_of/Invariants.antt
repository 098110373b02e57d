use Rattle.std.proofs.Common.{◌≡◌, ◌≤◌, length, map, take}
use Rattle.ipx_c.specs.PlanValues.{planned_link}
use Rattle.ipx_c.proofs.planning.links_of.Given as goal

abbrev pub invariant-loop-value : goal.invariant-loop-value
invariant-loop-value l = record {
  links : l.links.items ≡ map planned_link (take l.value-index l.values);
  few : length l.links.items ≤ l.value-index;
}
