use Rattle.ipx_configuration.proofs.Apart.{holds_after, holds_at_first}
use Rattle.ipx_configuration.proofs.Listing.{is_told}
use Rattle.ipx_configuration.proofs.laws.links_are_told.Goals as goal

pub returns-clause-few : goal.returns-clause-few
returns-clause-few c = λ capacity n it lines blank. (holds_after capacity n it lines (holds_at_first it blank)).within

pub returns-clause-ordered : goal.returns-clause-ordered
returns-clause-ordered c = λ capacity n it lines blank. (holds_after capacity n it lines (holds_at_first it blank)).links.placed.ordered

pub returns-clause-told : goal.returns-clause-told
returns-clause-told c = λ capacity other n k it lines blank less. is_told other k _ (holds_after capacity n it lines (holds_at_first it blank)) less
