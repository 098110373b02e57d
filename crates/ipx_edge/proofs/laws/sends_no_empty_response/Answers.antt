use Rattle.ipx_edge.proofs.Filters.{no_routes_left, no_services_left}
use Rattle.ipx_edge.proofs.laws.sends_no_empty_response.Goals as goal

pub returns-clause-routes : goal.returns-clause-routes
returns-clause-routes c = no_routes_left

pub returns-clause-services : goal.returns-clause-services
returns-clause-services c = no_services_left
