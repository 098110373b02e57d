use Rattle.ipx_fair.specs.Laws.{Anything}
use Rattle.ipx_limits.proofs.Several.{runs_one}
use Rattle.ipx_limits.proofs.laws.each_is_a_receiver.Goals as goal

pub returns : goal.returns
returns c = λ old new events run. runs_one Anything old new events run
