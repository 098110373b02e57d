use Rattle.std.proofs.Common.{◌∷◌, [], Some, arith}
use Rattle.least_ways.proofs.cited.arrives_beside_a_server.Goals as goal

pub returns : goal.returns
returns c net most_routes most_services run first ticks place bytes p way is within can long =
    let soon = c.right.ensures.soon (Some way) in
    c.arrives_apart.ensures.goes net most_routes most_services (record { 0 = 0x77 } ∷ []) run first ticks place bytes p way is within can
    (omega (arith, soon, long))
