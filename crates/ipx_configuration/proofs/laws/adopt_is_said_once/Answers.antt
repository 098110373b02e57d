use Rattle.ipx_configuration.proofs.Adopting.{first, again, others}
use Rattle.ipx_configuration.proofs.laws.adopt_is_said_once.Goals as goal

pub returns-clause-first : goal.returns-clause-first
returns-clause-first c = λ number text r n. first number text r.read r.fault n r.line

pub returns-clause-again : goal.returns-clause-again
returns-clause-again c = λ number text r n. again number text r.read r.fault n r.line

pub returns-clause-others : goal.returns-clause-others
returns-clause-others c = λ number text r n. others number text r.read r.fault n r.line
