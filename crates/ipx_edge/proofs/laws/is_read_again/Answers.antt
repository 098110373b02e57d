use Rattle.ipx_edge.proofs.Unchanged.{read_again}
use Rattle.ipx_edge.proofs.laws.is_read_again.Goals as goal

pub returns : goal.returns
returns c = read_again
