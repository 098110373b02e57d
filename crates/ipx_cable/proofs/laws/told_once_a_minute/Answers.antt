use Rattle.ipx_cable.proofs.Watched.{once_a_minute}
use Rattle.ipx_cable.proofs.laws.told_once_a_minute.Goals as goal

pub returns : goal.returns
returns c = λ first then at link from second before last later earlier some was is.
    once_a_minute first then at link from second before last later earlier some was is
