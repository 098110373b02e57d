use Rattle.std.proofs.Common.{◌≡◌, map, take}
use Rattle.std.specs.List.{flat_map}
use Rattle.ipx_router.specs.News.{service_told}
use Rattle.ipx_router.specs.inside.Putting.{no_port}
use Rattle.ipx_router.specs.inside.Touched.{change_of}
use Rattle.ipx_router.proofs.learning.news.has_learned.Given as goal

abbrev pub invariant-loop-change : goal.invariant-loop-change
invariant-loop-change l =
    flat_map (service_told l.number) (map change_of (take l.change-index l.changes))
    ≡ flat_map (service_told no_port) (map change_of (take l.change-index l.changes))
