use Rattle.ipx_segment.proofs.Lists.{mapped_more}
use Rattle.ipx_segment.proofs.learning.age.Goals as goal

pub loop-station-preserved : goal.loop-station-preserved
loop-station-preserved c = mapped_more c.loop-station.invariant c.loop-station-test.true _ _ c.a_second_later.ensures
