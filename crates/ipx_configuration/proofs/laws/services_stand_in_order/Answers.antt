use Rattle.ipx_configuration.proofs.Leading.{last_service, service_again, full_services, other_services}
use Rattle.ipx_configuration.proofs.laws.services_stand_in_order.Goals as goal

pub returns-clause-last : goal.returns-clause-last
returns-clause-last c = λ number text r n it. last_service number text r.read r.fault n r.line it

pub returns-clause-again : goal.returns-clause-again
returns-clause-again c = λ number text r n b kind name. service_again number text r.read r.fault n r.line b kind name

pub returns-clause-full : goal.returns-clause-full
returns-clause-full c = λ number text r n. full_services number text r.read r.fault n r.line

pub returns-clause-others : goal.returns-clause-others
returns-clause-others c = λ number text r n. other_services number text r.read r.fault n r.line
