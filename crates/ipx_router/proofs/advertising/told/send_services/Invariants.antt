use Rattle.std.proofs.Common.{◌≡◌, ◌+◌, ◌<◌, ◌≤◌, [], length, false}
use Rattle.std.specs.List.{flat_map}
use Rattle.ipx_router.specs.Facts.{offers}
use Rattle.ipx_router.specs.Numbers.{services_a_page}
use Rattle.ipx_router.specs.inside.Owed.{Pays, owed}
use Rattle.ipx_router.specs.inside.Envelope.{services_in}
use Rattle.ipx_router.specs.inside.Selection.{service_selected_by}
use Rattle.ipx_router.specs.Told.{told_services}
use Rattle.ipx_router.proofs.advertising.told.send_services.Given as goal

abbrev pub invariant-loop-count : goal.invariant-loop-count
invariant-loop-count g l =
    Pays l.initial.outbox l.outbox
    (owed services_a_page (services_in false l.envelope) [] (flat_map (service_selected_by l.fn.selection) (told_services (offers l.table.records) l.envelope.port)))
    (owed services_a_page (services_in false l.envelope) [] (flat_map (service_selected_by l.selected.selection) l.selected.services))
    × (l.count ≤ services_a_page)
    × (l.count < services_a_page → flat_map (service_selected_by l.selected.selection) l.selected.services ≡ [])

abbrev pub decreases-loop-count : goal.decreases-loop-count
decreases-loop-count g l = length (flat_map (service_selected_by l.selected.selection) l.selected.services) + l.count
