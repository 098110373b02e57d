use Rattle.ipx_edge.proofs.Filters.{routes_again, services_again}
use Rattle.ipx_edge.proofs.laws.leaves_what_is_permitted.Goals as goal

pub returns-clause-routes : goal.returns-clause-routes
returns-clause-routes c = routes_again

pub returns-clause-services : goal.returns-clause-services
returns-clause-services c = services_again
