use Rattle.ipx_segment.proofs.Finding.{faded}
use Rattle.ipx_segment.proofs.laws.ages.Goals as goal

pub returns : goal.returns
returns c = λ setting history node link last long. faded setting node link history last long
