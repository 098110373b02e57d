use Rattle.std.proofs.Common.{ap, not}
use Rattle.ipx_fates.proofs.Nowhere.{own_frames}
use Rattle.ipx_fates.proofs.laws.own_frames_reach_nobody.Goals as goal

pub returns : goal.returns
returns c = λ told own. ap not (own_frames told own)
