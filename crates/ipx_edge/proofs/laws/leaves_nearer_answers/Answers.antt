use Rattle.ipx_edge.proofs.Nearer.{nearer, fewer}
use Rattle.ipx_edge.proofs.laws.leaves_nearer_answers.Goals as goal

pub returns-clause-nearer : goal.returns-clause-nearer
returns-clause-nearer c = nearer

pub returns-clause-fewer : goal.returns-clause-fewer
returns-clause-fewer c = fewer
