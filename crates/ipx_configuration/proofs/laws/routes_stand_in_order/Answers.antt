use Rattle.ipx_configuration.proofs.Leading.{last_route, route_again, route_to_itself, full_routes, other_routes}
use Rattle.ipx_configuration.proofs.laws.routes_stand_in_order.Goals as goal

pub returns-clause-last : goal.returns-clause-last
returns-clause-last c = λ number text r n it. last_route number text r.read r.fault n r.line it

pub returns-clause-again : goal.returns-clause-again
returns-clause-again c = λ number text r n b to. route_again number text r.read r.fault n r.line b to

pub returns-clause-itself : goal.returns-clause-itself
returns-clause-itself c = λ number text r n b. route_to_itself number text r.read r.fault n r.line b

pub returns-clause-full : goal.returns-clause-full
returns-clause-full c = λ number text r n. full_routes number text r.read r.fault n r.line

pub returns-clause-others : goal.returns-clause-others
returns-clause-others c = λ number text r n. other_routes number text r.read r.fault n r.line
