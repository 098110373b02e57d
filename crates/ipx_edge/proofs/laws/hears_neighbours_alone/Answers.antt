use Rattle.ipx_edge.proofs.Held.{neighbours_alone}
use Rattle.ipx_edge.proofs.laws.hears_neighbours_alone.Goals as goal

pub returns : goal.returns
returns c = neighbours_alone
