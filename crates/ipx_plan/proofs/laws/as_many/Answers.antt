use Rattle.ipx_plan.proofs.Planning.{none_left}
use Rattle.ipx_plan.proofs.laws.as_many.Goals as goal

pub returns : goal.returns
returns c = λ old new plan is j k added removed. none_left old new plan is j k added removed
