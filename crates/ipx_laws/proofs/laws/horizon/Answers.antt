use Rattle.ipx_internet.specs.Run.{begun}
use Rattle.ipx_laws.proofs.laws.horizon.Goals as goal
use Rattle.ipx_laws.proofs.packets.NothingGoesBack.{run_observes, all_delivered}

pub returns-clause-split_horizon : goal.returns-clause-split_horizon
returns-clause-split_horizon c net most_routes most_services histories steps is are all =
    run_observes net c.routing.ensures c.no_route_goes_back.ensures.sent is most_routes most_services histories steps are all

pub returns-clause-nothing_else : goal.returns-clause-nothing_else
returns-clause-nothing_else c net most_routes most_services histories steps = all_delivered net most_routes most_services (begun histories) steps
