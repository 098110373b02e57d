use Rattle.std.proofs.Common.{◌-◌, ◌∷◌, [], length, arith}
use Rattle.least_ways.proofs.cited.real_behind_another_router_over_two_seconds.Goals as goal

pub returns : goal.returns
returns c net most_routes most_services histories beats router is are stopped beat leaves say long mine =
    c.real_with_outsiders_on_wires.ensures.routes net most_routes most_services 2 (length net - 1) (record { 0 = 0xFFFFFFFE } ∷ []) histories beats router
    is are stopped beat leaves say long (omega (arith, mine)) mine
