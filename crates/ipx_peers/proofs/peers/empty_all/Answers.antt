use Rattle.ipx_peers.specs.Memory.{no_peer}
use Rattle.ipx_peers.proofs.Lists.{one_more}
use Rattle.ipx_peers.proofs.peers.empty_all.Goals as goal

pub loop-place-preserved : goal.loop-place-preserved
loop-place-preserved c = one_more c.loop-place.invariant c.loop-place-test.true no_peer _ c.none.ensures
