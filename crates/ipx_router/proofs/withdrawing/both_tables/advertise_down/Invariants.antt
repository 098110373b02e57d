use Rattle.std.proofs.Common.{drop}
use Rattle.std.specs.List.{flat_map}
use Rattle.ipx_router.specs.inside.EndedSends.{down_sends}
use Rattle.ipx_router.specs.inside.Owed.{Pays}
use Rattle.ipx_router.proofs.withdrawing.both_tables.advertise_down.Given as goal

abbrev pub invariant-loop-number : goal.invariant-loop-number
invariant-loop-number l = Pays l.initial.outbox l.outbox (flat_map (down_sends l.ports l.ended l.ended_services l.port) l.up)
    (flat_map (down_sends l.ports l.ended l.ended_services l.port) (drop l.number-index l.up))
