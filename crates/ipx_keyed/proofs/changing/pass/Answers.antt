use Rattle.ipx_tunnel.proofs.Lists.{mapped_more}
use Rattle.ipx_keyed.proofs.changing.pass.Goals as goal

pub loop-client-preserved : goal.loop-client-preserved
loop-client-preserved c = mapped_more c.loop-client.invariant c.loop-client-test.true _ _ c.a_second_later.ensures
