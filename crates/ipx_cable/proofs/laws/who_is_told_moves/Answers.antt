use Rattle.ipx_cable.proofs.Watched.{who_is_told}
use Rattle.ipx_cable.proofs.laws.who_is_told_moves.Goals as goal

pub returns : goal.returns
returns c = λ node link second before history goes_on is. who_is_told node link second before history goes_on is
