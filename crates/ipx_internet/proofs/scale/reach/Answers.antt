use Rattle.std.proofs.Common.{refl, ◌+◌}
use Rattle.ipx_internet.proofs.scale.reach.Goals as goal
use Rattle.ipx_internet.proofs.weights.CountedUpToAWord.{reach_next}

pub loop-preserved : goal.loop-preserved
loop-preserved c = λ net is.
    reach_next net c.loop.counter c.args.hearers c.loop.whole c.saturating_add.result c.saturating_mul-whole.result (c.loop.counter + 1) is (c.loop.invariant net is)
    c.saturating_add.ensures c.saturating_mul-whole.ensures refl
