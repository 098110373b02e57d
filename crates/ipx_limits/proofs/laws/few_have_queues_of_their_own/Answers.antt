use Rattle.ipx_limits.proofs.SharedQueues.{own}
use Rattle.ipx_limits.proofs.laws.few_have_queues_of_their_own.Goals as goal

pub returns : goal.returns
returns c = λ first last number old new taken small few. own first last number old new taken small few
