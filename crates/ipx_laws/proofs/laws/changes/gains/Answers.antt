use Rattle.std.proofs.Common.{arith}
use Rattle.ipx_internet.specs.Run.{begun, run_of}
use Rattle.ipx_laws.specs.Least.{least_route}
use Rattle.ipx_laws.specs.Ups.{ups}
use Rattle.ipx_laws.proofs.laws.changes.gains.Goals as goal
use Rattle.ipx_laws.proofs.gains.RealWhileGaining.{gained, all_real}

pub returns-clause-real : goal.returns-clause-real
returns-clause-real c net most_routes most_services histories steps is are real gains =
    all_real net c.layouts.ensures is most_routes most_services histories steps are real gains

pub returns-clause-right : goal.returns-clause-right
returns-clause-right c net most_routes most_services histories steps ticks is differ cheap room are real gains quiet enough suffice calm router network inside =
    let then_run = run_of net most_routes most_services (begun histories) steps in
    let soon = c.right.ensures.soon (least_route net (ups net then_run.histories) router network) in
    c.right.ensures.sooner net most_routes most_services then_run ticks router network
    (is, differ, suffice network, cheap, room, (gained net c.layouts.ensures is most_routes most_services histories steps are real gains).are)
    (all_real net c.layouts.ensures is most_routes most_services histories steps are real gains) quiet calm inside (omega (arith, soon, enough))
