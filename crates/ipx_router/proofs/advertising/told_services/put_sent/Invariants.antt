use Rattle.std.proofs.Common.{◌≤◌, length}
use Rattle.std.specs.List.{flat_map}
use Rattle.ipx_router.specs.Numbers.{services_a_page}
use Rattle.ipx_router.specs.Told.{told_services}
use Rattle.ipx_router.specs.inside.Ended.{ServicesAscend}
use Rattle.ipx_router.specs.inside.Putting.{PutsServices}
use Rattle.ipx_router.specs.inside.Selection.{service_selected_by}
use Rattle.ipx_router.proofs.advertising.told_services.put_sent.Given as goal

abbrev pub invariant-loop-count : goal.invariant-loop-count
invariant-loop-count l =
    (l.count ≤ services_a_page)
    × ServicesAscend l.rest
    × PutsServices (flat_map (service_selected_by l.selection) (told_services l.services l.number))
    (flat_map (service_selected_by l.selection) (told_services l.rest l.number)) l.count l.initial.out l.out

abbrev pub decreases-loop-count : goal.decreases-loop-count
decreases-loop-count l = length l.rest
