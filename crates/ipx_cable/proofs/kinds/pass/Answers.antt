use Rattle.ipx_cable.proofs.Lists.{one_more}
use Rattle.ipx_cable.proofs.kinds.pass.Goals as goal

pub loop-kind-preserved : goal.loop-kind-preserved
loop-kind-preserved c = one_more c.loop-kind.invariant c.loop-kind-test.true _ _ c.later.ensures
