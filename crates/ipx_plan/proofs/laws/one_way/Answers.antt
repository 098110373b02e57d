use Rattle.ipx_plan.proofs.Planning.{same_plan}
use Rattle.ipx_plan.proofs.laws.one_way.Goals as goal

pub returns : goal.returns
returns c = λ old new a b one other. same_plan old new a b one other
