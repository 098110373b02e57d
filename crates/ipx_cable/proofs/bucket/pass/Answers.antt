use Rattle.ipx_cable.proofs.Lists.{one_more}
use Rattle.ipx_cable.proofs.bucket.pass.Goals as goal

pub loop-station-preserved : goal.loop-station-preserved
loop-station-preserved c = one_more c.loop-station.invariant c.loop-station-test.true _ _ c.later.ensures
