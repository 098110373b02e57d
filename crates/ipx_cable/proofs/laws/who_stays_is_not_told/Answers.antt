use Rattle.ipx_cable.proofs.Watched.{who_stays}
use Rattle.ipx_cable.proofs.laws.who_stays_is_not_told.Goals as goal

pub returns : goal.returns
returns c = λ node link second before history not_zeros stays is. who_stays node link second before history not_zeros stays is
