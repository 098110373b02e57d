use Rattle.std.proofs.Common.{◌-◌, ◌∷◌, [], length, arith}
use Rattle.least_ways.proofs.cited.real_behind_another_router.Goals as goal

pub returns : goal.returns
returns c net most_routes most_services run first ticks router is are stopped hosts say long mine =
    c.real_with_outsiders.ensures.ways net most_routes most_services (length net - 1) (record { 0 = 0xFFFFFFFE } ∷ []) run first ticks router is are stopped
    hosts say long (omega (arith, mine)) mine
