use Rattle.ipx_cable.proofs.Fronts.{without_gaps}
use Rattle.ipx_cable.proofs.laws.ranges_are_without_gaps.Goals as goal

pub returns : goal.returns
returns c = λ bits host address small small_address clear. without_gaps bits host address small small_address clear
