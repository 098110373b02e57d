use Rattle.ipx_edge.proofs.RoutersWords.{routes_come, services_come}
use Rattle.ipx_edge.proofs.laws.leaves_routers_words.Goals as goal

pub returns-clause-routes : goal.returns-clause-routes
returns-clause-routes c = routes_come

pub returns-clause-services : goal.returns-clause-services
returns-clause-services c = services_come
