use Rattle.ipx_cable.proofs.Questions.{not_forgotten}
use Rattle.ipx_cable.proofs.laws.nobody_is_forgotten.Goals as goal

pub returns : goal.returns
returns c = λ count who now history due. not_forgotten count who now history due
