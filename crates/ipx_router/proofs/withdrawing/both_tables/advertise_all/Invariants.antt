use Rattle.std.proofs.Common.{drop}
use Rattle.std.specs.List.{flat_map}
use Rattle.ipx_router.specs.inside.EndedSends.{periodic_sends}
use Rattle.ipx_router.specs.Facts.{offers}
use Rattle.ipx_router.specs.inside.Owed.{Pays}
use Rattle.ipx_router.proofs.withdrawing.both_tables.advertise_all.Given as goal

abbrev pub invariant-loop-number : goal.invariant-loop-number
invariant-loop-number g l = Pays l.initial.outbox l.outbox
    (flat_map (periodic_sends l.ports l.ended l.ended_services l.up (offers l.routes.records) (offers l.services.records)) l.up)
    (flat_map (periodic_sends l.ports l.ended l.ended_services l.up (offers l.routes.records) (offers l.services.records)) (drop l.number-index l.up))
