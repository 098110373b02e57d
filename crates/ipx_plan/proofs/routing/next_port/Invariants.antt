use Rattle.std.proofs.Common.{◌≡◌, drop}
use Rattle.ipx_plan.specs.Routing.{ports}
use Rattle.ipx_plan.proofs.routing.next_port.Given as goal

abbrev pub invariant-loop-k : goal.invariant-loop-k
invariant-loop-k l = ports (drop l.from l.links) ≡ ports (drop l.k l.links)
