use Rattle.ipx_edge.proofs.Unchanged.{source, services}
use Rattle.ipx_edge.proofs.laws.names_its_network.Goals as goal

pub returns-clause-source : goal.returns-clause-source
returns-clause-source c = source

pub returns-clause-services : goal.returns-clause-services
returns-clause-services c = services
