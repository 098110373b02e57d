use Rattle.ipx_wire.proofs.Forwarded.{forwarded_bytes, propagated_bytes}
use Rattle.ipx_wire.proofs.laws.sent_on.Goals as goal

pub returns-clause-forwarded : goal.returns-clause-forwarded
returns-clause-forwarded c = forwarded_bytes

pub returns-clause-propagated : goal.returns-clause-propagated
returns-clause-propagated c = propagated_bytes
