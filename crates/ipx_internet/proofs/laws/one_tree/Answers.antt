use Rattle.std.proofs.Common.{arith, ◌<◌}
use Rattle.ipx_router.specs.Numbers.{most_routers}
use Rattle.ipx_internet.specs.Traced.{most_levels, tree}
use Rattle.ipx_internet.proofs.laws.one_tree.Goals as goal
use Rattle.ipx_internet.proofs.trees.ListedIsTheTree.{one_tree}

pub returns : goal.returns
unfolding tree
returns c routers copy copies made right bytes is =
    let deep : most_routers < most_levels = omega arith in
    one_tree routers copy (c.trees.ensures.whole routers copy most_levels made right bytes deep) copies is
