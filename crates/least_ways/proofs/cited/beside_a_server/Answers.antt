use Rattle.std.proofs.Common.{◌∷◌, [], arith}
use Rattle.ipx_laws.specs.Least.{least_route}
use Rattle.ipx_laws.specs.Ups.{ups}
use Rattle.least_ways.proofs.cited.beside_a_server.Goals as goal

pub returns : goal.returns
returns c net most_routes most_services run first ticks router network is are within long =
    let soon = c.right.ensures.soon (least_route net (ups net run.histories) router network) in
    c.right_apart.ensures.tables net most_routes most_services (record { 0 = 0x77 } ∷ []) run first ticks router network is are within (omega (arith, soon, long))
