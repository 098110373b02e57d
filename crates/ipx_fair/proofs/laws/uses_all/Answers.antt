use Rattle.ipx_fair.proofs.Running.{given_exactly}
use Rattle.ipx_fair.proofs.laws.uses_all.Goals as goal

pub returns : goal.returns
returns c = λ old new events run. given_exactly old new events run
