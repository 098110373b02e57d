use Rattle.ipx_plan.proofs.Alike.{distance_network}
use Rattle.ipx_plan.proofs.Planning.{is_alike}
use Rattle.ipx_plan.proofs.laws.alike.Goals as goal

pub returns-clause-alike : goal.returns-clause-alike
returns-clause-alike c = λ old new plan is j k was. is_alike old new plan is j k was

pub returns-clause-network : goal.returns-clause-network
returns-clause-network c = λ a b near. distance_network a b near
