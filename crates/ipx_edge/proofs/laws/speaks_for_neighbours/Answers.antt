use Rattle.ipx_edge.proofs.Taught.{routes_heard, services_heard}
use Rattle.ipx_edge.proofs.laws.speaks_for_neighbours.Goals as goal

pub returns-clause-routes : goal.returns-clause-routes
returns-clause-routes c = routes_heard

pub returns-clause-services : goal.returns-clause-services
returns-clause-services c = services_heard
