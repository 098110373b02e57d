use Rattle.std.proofs.Common.{◌≡◌, ◌++◌, take, drop}
use Rattle.ipx_router.specs.Sorted.{put}
use Rattle.ipx_router.specs.Told.{network_before}
use Rattle.ipx_router.proofs.advertising.told_routes.place_of.Given as goal

abbrev pub invariant-loop-index : goal.invariant-loop-index
invariant-loop-index l = put network_before l.entry l.entries ≡ take l.index l.entries ++ put network_before l.entry (drop l.index l.entries)
