use Rattle.std.proofs.Common.{◌++◌}
use Rattle.std.specs.List.{flat_map}
use Rattle.ipx_router.specs.inside.Envelope.{entries_in}
use Rattle.ipx_router.specs.inside.Ended.{RoutesAscend, ended_on}
use Rattle.ipx_router.specs.Facts.{offers}
use Rattle.ipx_router.specs.Numbers.{entries_a_page}
use Rattle.ipx_router.specs.inside.Owed.{Pays, owed}
use Rattle.ipx_router.specs.Sends.{rip_broadcast}
use Rattle.ipx_router.specs.Sorted.{put_all}
use Rattle.ipx_router.specs.Told.{by_network, network_before, told}
use Rattle.ipx_router.proofs.withdrawing.periodic.broadcast_merged_routes.Given as goal

abbrev pub invariant-loop-entry : goal.invariant-loop-entry
invariant-loop-entry g l = record {
  goes : (goal.iterator-loop-entry g).can_next l.entry-iterator;
  ends : (goal.iterator-loop-entry g).is_finite l.entry-iterator;
  pays : Pays l.initial.outbox l.outbox
      (rip_broadcast l.ports l.number (by_network (told l.ports l.up (offers l.table.records) l.number ++ flat_map (ended_on l.number) l.ended)))
      (owed entries_a_page (entries_in l.envelope) l.page.items
      (put_all network_before l.entry-iterator (flat_map (ended_on l.envelope.port) l.rest)));
  ascends : RoutesAscend l.rest;
}
