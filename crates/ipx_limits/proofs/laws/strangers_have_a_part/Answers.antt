use Rattle.ipx_limits.proofs.NarrowLine.{strangers_most}
use Rattle.ipx_limits.proofs.laws.strangers_have_a_part.Goals as goal

pub returns : goal.returns
returns c = λ line parts most old new events run few. strangers_most line parts most old new events run few
