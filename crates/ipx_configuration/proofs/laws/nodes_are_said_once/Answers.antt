use Rattle.ipx_configuration.proofs.Naming.{first, again, others}
use Rattle.ipx_configuration.proofs.laws.nodes_are_said_once.Goals as goal

pub returns-clause-first : goal.returns-clause-first
returns-clause-first c = λ n text r links link. first n text r.read r.fault links link r.line

pub returns-clause-again : goal.returns-clause-again
returns-clause-again c = λ n text r links link. again n text r.read r.fault links link r.line

pub returns-clause-others : goal.returns-clause-others
returns-clause-others c = λ n text r links link. others n text r.read r.fault links link r.line
