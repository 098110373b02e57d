use Rattle.std.proofs.Common.{drop}
use Rattle.std.specs.List.{flat_map}
use Rattle.ipx_router.specs.inside.EndedSends.{ended_sends}
use Rattle.ipx_router.specs.inside.Owed.{Pays}
use Rattle.ipx_router.proofs.withdrawing.both_tables.advertise_ended.Given as goal

abbrev pub invariant-loop-number : goal.invariant-loop-number
invariant-loop-number l = Pays l.initial.outbox l.outbox (flat_map (ended_sends l.ports l.ended l.ended_services) l.up)
    (flat_map (ended_sends l.ports l.ended l.ended_services) (drop l.number-index l.up))
