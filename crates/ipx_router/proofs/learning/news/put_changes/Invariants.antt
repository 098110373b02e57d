use Rattle.std.proofs.Common.{◌≤◌, length, map}
use Rattle.std.specs.List.{flat_map}
use Rattle.ipx_router.specs.News.{service_told}
use Rattle.ipx_router.specs.Numbers.{services_a_page}
use Rattle.ipx_router.specs.inside.Putting.{PutsServices}
use Rattle.ipx_router.specs.inside.Touched.{change_of}
use Rattle.ipx_router.proofs.learning.news.put_changes.Given as goal

abbrev pub invariant-loop-count : goal.invariant-loop-count
invariant-loop-count l =
    (l.count ≤ services_a_page)
    × PutsServices (flat_map (service_told l.number) (map change_of l.initial.changes)) (flat_map (service_told l.number) (map change_of l.rest)) l.count
    l.initial.out l.out

abbrev pub decreases-loop-count : goal.decreases-loop-count
decreases-loop-count l = length l.rest
