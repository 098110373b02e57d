use Rattle.std.proofs.Common.{ap, not}
use Rattle.ipx_fates.proofs.Nowhere.{for_far_routers}
use Rattle.ipx_fates.proofs.laws.far_routers_hear_no_client.Goals as goal

pub returns : goal.returns
returns c = λ told far. ap not (for_far_routers told far)
