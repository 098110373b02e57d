use Rattle.ipx_cable.proofs.Using.{used_forth, used_back}
use Rattle.ipx_cable.proofs.laws.used_kinds_were_heard.Goals as goal

pub returns : goal.returns
returns c = λ hash history kind valid. (used_forth hash history kind valid, used_back hash history kind valid)
