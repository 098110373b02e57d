use Rattle.ipx_edge.proofs.Filters.{unnamed_passes}
use Rattle.ipx_edge.proofs.laws.passes_what_is_unnamed.Goals as goal

pub returns : goal.returns
returns c = unnamed_passes
