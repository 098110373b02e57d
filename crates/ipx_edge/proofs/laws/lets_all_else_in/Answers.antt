use Rattle.ipx_edge.proofs.Held.{comes, same}
use Rattle.ipx_edge.proofs.laws.lets_all_else_in.Goals as goal

pub returns-clause-comes : goal.returns-clause-comes
returns-clause-comes c = comes

pub returns-clause-same : goal.returns-clause-same
returns-clause-same c = same
