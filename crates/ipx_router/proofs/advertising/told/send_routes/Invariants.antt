use Rattle.std.proofs.Common.{◌≡◌, ◌+◌, ◌<◌, ◌≤◌, [], length}
use Rattle.std.specs.List.{flat_map}
use Rattle.ipx_router.specs.Facts.{offers}
use Rattle.ipx_router.specs.Numbers.{entries_a_page}
use Rattle.ipx_router.specs.inside.Owed.{Pays, owed}
use Rattle.ipx_router.specs.inside.Envelope.{entries_in}
use Rattle.ipx_router.specs.inside.Selection.{selected_by}
use Rattle.ipx_router.specs.Told.{told}
use Rattle.ipx_router.proofs.advertising.told.send_routes.Given as goal

abbrev pub invariant-loop-count : goal.invariant-loop-count
invariant-loop-count g l =
    Pays l.initial.outbox l.outbox
    (owed entries_a_page (entries_in l.envelope) [] (flat_map (selected_by l.selection) (told l.ports l.up (offers l.table.records) l.envelope.port)))
    (owed entries_a_page (entries_in l.envelope) [] (flat_map (selected_by l.selection) l.routes))
    × (l.count ≤ entries_a_page)
    × (l.count < entries_a_page → flat_map (selected_by l.selection) l.routes ≡ [])
    × (length l.page ≡ entries_a_page)

abbrev pub decreases-loop-count : goal.decreases-loop-count
decreases-loop-count g l = length (flat_map (selected_by l.selection) l.routes) + l.count
