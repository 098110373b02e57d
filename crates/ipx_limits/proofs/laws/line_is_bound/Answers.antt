use Rattle.ipx_limits.proofs.NarrowLine.{bound}
use Rattle.ipx_limits.proofs.laws.line_is_bound.Goals as goal

pub returns : goal.returns
returns c = λ line speak_to old new events run. bound line speak_to old new events run
