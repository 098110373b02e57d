use Rattle.ipx_configuration.proofs.Sharing.{same_rate}
use Rattle.ipx_configuration.proofs.laws.links_share_a_rate.Goals as goal

pub returns : goal.returns
returns c = λ links i j a b. same_rate a b links i j
