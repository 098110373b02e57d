use Rattle.std.proofs.Common.{◌≡◌, subst, ℕ, suc, ◌+◌, [], length, arith}
use Rattle.ipx_internet.specs.Traced.{routers_after}
use Rattle.ipx_internet.specs.Tree.{tree_to}
use Rattle.ipx_laws.proofs.laws.arrives.Goals as goal
use Rattle.ipx_laws.proofs.tables.AnEmptyList.{setting_beside}
use Rattle.ipx_laws.proofs.tables.PacketsArrive.{one_each, ends, nobody_after}
use Rattle.ipx_laws.proofs.ticks.AfterRest.{beside_after}

-- with an empty list
pub returns-clause-goes : goal.returns-clause-goes
returns-clause-goes c net most_routes most_services run first ticks place bytes p way setting calm can sure =
    c.arrives_apart.ensures.goes net most_routes most_services [] run first ticks place bytes p way
    (setting_beside net most_routes run.histories p.header.destination.network setting) (beside_after net most_routes most_services [] run first ticks calm) can sure

pub returns-clause-one_each : goal.returns-clause-one_each
returns-clause-one_each c routers to control hops copy arrives =
    let same : suc hops ≡ hops + 1 = omega arith in
    subst (λ (n : ℕ). length (tree_to routers n copy) ≡ n) same (one_each routers to control hops 0 copy arrives)

pub returns-clause-ends : goal.returns-clause-ends
returns-clause-ends c net most_routes histories p control hops copy of_host one arrives =
    ends (routers_after net most_routes histories) p.header.destination (nobody_after net most_routes histories p of_host one) control hops copy arrives
