use Rattle.ipx_peers.proofs.Lists.{one_more}
use Rattle.ipx_peers.proofs.peers.pass.Goals as goal

pub loop-place-preserved : goal.loop-place-preserved
loop-place-preserved c = one_more c.loop-place.invariant c.loop-place-test.true _ _ c.pass.ensures
