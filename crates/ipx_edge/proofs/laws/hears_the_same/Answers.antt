use Rattle.ipx_edge.proofs.SameWords.{hears_the_same}
use Rattle.ipx_edge.proofs.laws.hears_the_same.Goals as goal

pub returns : goal.returns
returns c = λ ports up running number. hears_the_same ports up number running
