use Rattle.std.proofs.Common.{◌≡◌, ◌≤◌, map, take, length}
use Rattle.ipx_router.specs.Told.{by_network, told_at, direct}
use Rattle.ipx_router.proofs.advertising.told_routes.list_direct.Given as goal

abbrev pub invariant-loop-other : goal.invariant-loop-other
invariant-loop-other l =
    (l.entries.items ≡ by_network (map (told_at l.cost) (direct l.ports (take l.other-index l.up) l.number)))
    × (length l.entries.items ≤ l.other-index)
