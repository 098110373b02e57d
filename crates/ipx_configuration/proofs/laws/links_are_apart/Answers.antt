use Rattle.ipx_configuration.proofs.Apart.{holds_after, holds_at_first}
use Rattle.ipx_configuration.proofs.laws.links_are_apart.Goals as goal

pub returns : goal.returns
returns c = λ capacity n it lines blank. (holds_after capacity n it lines (holds_at_first it blank)).links.apart
