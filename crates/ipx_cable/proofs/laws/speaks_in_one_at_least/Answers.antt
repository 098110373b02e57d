use Rattle.ipx_cable.proofs.Using.{in_one_at_least}
use Rattle.ipx_cable.proofs.laws.speaks_in_one_at_least.Goals as goal

pub returns : goal.returns
returns c = λ hash history node. in_one_at_least hash history node
