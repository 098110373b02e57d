use Rattle.std.proofs.Common.{arith}
use Rattle.least_ways.proofs.cited.contained_by_edges.Goals as goal

pub returns-clause-elsewhere : goal.returns-clause-elsewhere
returns-clause-elsewhere c net most_routes most_services run event =
    c.containment.ensures.elsewhere net most_routes most_services run 0 1 event (λ same. omega (arith, same))

pub returns-clause-share : goal.returns-clause-share
returns-clause-share c net most_routes most_services run steps place there share =
    let within = c.containment.ensures.routes net most_routes most_services run steps place.router place.port there in
    omega (arith, within, share)
