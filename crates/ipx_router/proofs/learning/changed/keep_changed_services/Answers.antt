use Rattle.std.proofs.Common.{◌==◌}
use Rattle.ipx_wire.specs.Name.{same_name}
use Rattle.ipx_router.specs.News.{same_service}
use Rattle.ipx_router.specs.Port.{same_node}
use Rattle.ipx_router.proofs.changes.TouchedGivesAllChanges.{field_by_field}
use Rattle.ipx_router.proofs.learning.changed.keep_changed_services.Goals as goal

pub returns : goal.returns
returns c = λ before now touches.
    c.keep_changes.ensures same_service
    (λ a b.
    let from = a.service.address in
    let to = b.service.address in
    field_by_field (a.service.kind == b.service.kind) (same_name a.service.name b.service.name)
    (from.network.0 == to.network.0) (same_node from.node to.node) (from.socket.0 == to.socket.0)
    (a.service.hops == b.service.hops) (a.port == b.port) (same_node a.node b.node)) before now touches
