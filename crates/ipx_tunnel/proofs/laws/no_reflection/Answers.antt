use Rattle.ipx_tunnel.proofs.Sending.{carried_none, own_few, sent_few}
use Rattle.ipx_tunnel.proofs.laws.no_reflection.Goals as goal

pub returns-clause-carried : goal.returns-clause-carried
returns-clause-carried c = λ setting history place none. carried_none setting history place none

pub returns-clause-event : goal.returns-clause-event
returns-clause-event c = λ setting event history place none. own_few setting event history place none

pub returns-clause-in_all : goal.returns-clause-in_all
returns-clause-in_all c = λ setting history place. sent_few setting history place
