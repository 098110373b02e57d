use Rattle.ipx_fair.proofs.Running.{drains}
use Rattle.ipx_fair.proofs.laws.drains.Goals as goal

pub returns : goal.returns
returns c = λ old new events kept run none long. drains old new events kept run none long
