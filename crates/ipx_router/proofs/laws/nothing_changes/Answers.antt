use Rattle.ipx_router.proofs.histories.NothingDoneNothingChanged.{leaves, routes_stay, services_stay}
use Rattle.ipx_router.proofs.laws.nothing_changes.Goals as goal

pub returns-clause-sends : goal.returns-clause-sends
returns-clause-sends c ports most_routes most_services history event e = (leaves ports most_routes history event e).sends_none most_services

pub returns-clause-running : goal.returns-clause-running
returns-clause-running c ports most_routes history event e = (leaves ports most_routes history event e).runs

pub returns-clause-ports_up : goal.returns-clause-ports_up
returns-clause-ports_up c ports most_routes history event e = (leaves ports most_routes history event e).ups

pub returns-clause-routes : goal.returns-clause-routes
returns-clause-routes c = routes_stay

pub returns-clause-services : goal.returns-clause-services
returns-clause-services c ports most_routes most_services history = services_stay ports most_routes history most_services

pub returns-clause-seconds : goal.returns-clause-seconds
returns-clause-seconds c ports most_routes history event e = (leaves ports most_routes history event e).seconds
