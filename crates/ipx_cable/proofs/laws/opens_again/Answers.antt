use Rattle.ipx_cable.proofs.Probes.{opens_again}
use Rattle.ipx_cable.proofs.laws.opens_again.Goals as goal

pub returns : goal.returns
returns c = λ count link later earlier none passed. opens_again count link later earlier none passed
