use Rattle.ipx_fair.proofs.Parts.{fair_part}
use Rattle.ipx_fair.proofs.laws.fair_part.Goals as goal

pub returns : goal.returns
returns c = λ n speaker old new events kept run. fair_part n speaker old new events kept run
