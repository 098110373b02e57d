use Rattle.ipx_cable.proofs.InTime.{not_early}
use Rattle.ipx_cable.proofs.laws.none_goes_too_early.Goals as goal

pub returns : goal.returns
returns c = λ apart count between begin later history some shown room rooms wait goes_on late fits goes.
    not_early apart count between begin later history some shown room rooms wait goes_on late fits goes
