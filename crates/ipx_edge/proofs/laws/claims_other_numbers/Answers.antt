use Rattle.ipx_edge.proofs.Claims.{routes_claim, services_claim, unheard, is_other}
use Rattle.ipx_edge.proofs.laws.claims_other_numbers.Goals as goal

pub returns-clause-routes : goal.returns-clause-routes
returns-clause-routes c = routes_claim

pub returns-clause-services : goal.returns-clause-services
returns-clause-services c = services_claim

pub returns-clause-unheard : goal.returns-clause-unheard
returns-clause-unheard c = unheard

pub returns-clause-other : goal.returns-clause-other
returns-clause-other c = is_other
