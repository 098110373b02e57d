use Rattle.ipx_configuration.proofs.Ruling.{last, full, others}
use Rattle.ipx_configuration.proofs.laws.rules_stand_in_order.Goals as goal

pub returns-clause-last : goal.returns-clause-last
returns-clause-last c = λ number text r n permits it. last number text r.read r.fault n r.line permits it

pub returns-clause-full : goal.returns-clause-full
returns-clause-full c = λ number text r n. full number text r.read r.fault n r.line

pub returns-clause-others : goal.returns-clause-others
returns-clause-others c = λ number text r n. others number text r.read r.fault n r.line
