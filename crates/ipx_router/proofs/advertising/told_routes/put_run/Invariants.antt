use Rattle.std.proofs.Common.{◌≡◌, ◌<◌, ◌≤◌, false, List, ◌++◌, length, take}
use Rattle.ipx_wire.specs.declared.rip.RipEntry.{RipEntry}
use Rattle.ipx_router.specs.Numbers.{entries_a_page}
use Rattle.ipx_router.specs.Told.{network_before}
use Rattle.ipx_router.specs.inside.Ended.{RoutesAscend}
use Rattle.ipx_router.specs.inside.Sources.{waits_before}
use Rattle.ipx_router.specs.inside.ToldRoutes.{routes_left}
use Rattle.ipx_router.proofs.advertising.told_routes.put_run.Given as goal

abbrev pub invariant-loop-next : goal.invariant-loop-next
invariant-loop-next l = record {
  more : l.count ≤ l.next;
  few : l.next ≤ entries_a_page;
  size : length l.page ≡ entries_a_page;
  ascends : RoutesAscend l.rest;
  entries : (waiting : List RipEntry) → ((entry : RipEntry) → entry.network.0 < l.limit → waits_before network_before entry waiting ≡ false)
      → take l.count l.initial.page ++ routes_left l.number l.cost waiting l.routes ≡ take l.next l.page ++ routes_left l.number l.cost waiting l.rest;
}

abbrev pub decreases-loop-next : goal.decreases-loop-next
decreases-loop-next l = length l.rest
