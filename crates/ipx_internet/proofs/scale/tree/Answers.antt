use Rattle.std.proofs.Common.{refl, ◌+◌}
use Rattle.ipx_internet.proofs.scale.tree.Goals as goal
use Rattle.ipx_internet.proofs.weights.CountedUpToAWord.{tree_next}

pub loop-preserved : goal.loop-preserved
loop-preserved c = λ d is.
    tree_next d c.loop.counter c.args.degree c.loop.whole c.saturating_mul.result c.saturating_add-whole.result (c.loop.counter + 1) is (c.loop.invariant d is)
    c.saturating_mul.ensures c.saturating_add-whole.ensures refl
