use Rattle.ipx_limits.proofs.WithinParts.{keeps_within, never_itself}
use Rattle.ipx_limits.proofs.laws.part_is_within.Goals as goal

pub returns-clause-part : goal.returns-clause-part
returns-clause-part c = λ line to number bytes old new sayings used is_address another run less fits.
    keeps_within line to number bytes old new sayings used is_address another run less fits

pub returns-clause-itself : goal.returns-clause-itself
returns-clause-itself c = λ line to number bytes used itself is. never_itself line to number bytes used itself is
