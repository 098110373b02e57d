use Rattle.std.proofs.Common.{◌==◌}
use Rattle.ipx_router.specs.News.{same_route}
use Rattle.ipx_router.specs.Port.{same_node}
use Rattle.ipx_router.proofs.changes.TouchedGivesAllChanges.{one_by_one}
use Rattle.ipx_router.proofs.learning.changed.keep_changed_routes.Goals as goal

pub returns : goal.returns
returns c = λ before now touches.
    c.keep_changes.ensures same_route
    (λ a b. one_by_one (a.network.0 == b.network.0) (a.hops == b.hops) (a.ticks == b.ticks) (a.port == b.port) (same_node a.node b.node)) before now touches
