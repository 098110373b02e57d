use Rattle.ipx_fair.proofs.Running.{bound}
use Rattle.ipx_fair.proofs.laws.bound.Goals as goal

pub returns : goal.returns
returns c = λ old new events kept run. bound old new events kept run
