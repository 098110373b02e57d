use Rattle.ipx_edge.proofs.Twice.{twice}
use Rattle.ipx_edge.proofs.laws.passes_again.Goals as goal

pub returns : goal.returns
returns c = twice
