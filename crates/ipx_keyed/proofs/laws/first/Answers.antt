use Rattle.ipx_keyed.proofs.First.{stays_remembered}
use Rattle.ipx_keyed.proofs.laws.first.Goals as goal

pub returns : goal.returns
returns c = λ setting earlier from bytes since remembers within. stays_remembered setting from bytes earlier remembers since within
