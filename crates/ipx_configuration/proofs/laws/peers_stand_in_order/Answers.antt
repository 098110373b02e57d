use Rattle.ipx_configuration.proofs.Peering.{last, again, full, others}
use Rattle.ipx_configuration.proofs.laws.peers_stand_in_order.Goals as goal

pub returns-clause-last : goal.returns-clause-last
returns-clause-last c = λ number text r n place. last number text r.read r.fault n r.line place

pub returns-clause-again : goal.returns-clause-again
returns-clause-again c = λ number text r n place. again number text r.read r.fault n r.line place

pub returns-clause-full : goal.returns-clause-full
returns-clause-full c = λ number text r n. full number text r.read r.fault n r.line

pub returns-clause-others : goal.returns-clause-others
returns-clause-others c = λ number text r n. others number text r.read r.fault n r.line
