use Rattle.ipx_plan.proofs.Alike.{at_port_found}
use Rattle.ipx_plan.proofs.Going.{stays_there, ends_or_goes}
use Rattle.ipx_plan.proofs.laws.clients.Goals as goal

pub returns-clause-stay : goal.returns-clause-stay
returns-clause-stay c = λ old new plan is j k a b was there here found. stays_there old new plan is j k a b was there here found

pub returns-clause-at_port : goal.returns-clause-at_port
returns-clause-at_port c = λ a b is. at_port_found a b is

pub returns-clause-once : goal.returns-clause-once
returns-clause-once c = λ old new plan is j a fate there tunnel has. ends_or_goes old new plan is j a fate there tunnel has
