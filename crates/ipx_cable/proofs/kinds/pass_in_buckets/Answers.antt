use Rattle.ipx_cable.proofs.Lists.{one_more}
use Rattle.ipx_cable.proofs.kinds.pass_in_buckets.Goals as goal

pub loop-bucket-preserved : goal.loop-bucket-preserved
loop-bucket-preserved c = one_more c.loop-bucket.invariant c.loop-bucket-test.true _ _ c.later.ensures
