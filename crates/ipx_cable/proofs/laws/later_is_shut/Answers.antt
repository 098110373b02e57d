use Rattle.ipx_cable.proofs.Probes.{is_shut_still}
use Rattle.ipx_cable.proofs.laws.later_is_shut.Goals as goal

pub returns : goal.returns
returns c = λ count here there history within before came. is_shut_still count here there history within before came
