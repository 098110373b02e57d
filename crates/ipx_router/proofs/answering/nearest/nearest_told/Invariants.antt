use Rattle.std.proofs.Common.{◌≡◌, ◌++◌, length}
use Rattle.std.specs.Option.{option_to_list}
use Rattle.ipx_router.specs.Facts.{offers}
use Rattle.ipx_router.specs.Sends.{nearest_of, of_kind}
use Rattle.ipx_router.specs.Told.{told_services}
use Rattle.ipx_router.proofs.answering.nearest.nearest_told.Given as goal

abbrev pub invariant-loop-offer : goal.invariant-loop-offer
invariant-loop-offer g l =
    nearest_of (option_to_list l.best ++ of_kind l.kind l.services) ≡ nearest_of (of_kind l.kind (told_services (offers l.table.records) l.number))

abbrev pub decreases-loop-offer : goal.decreases-loop-offer
decreases-loop-offer g l = length l.services
