use Rattle.std.proofs.Common.{◌++◌, false}
use Rattle.std.specs.List.{flat_map}
use Rattle.ipx_router.specs.inside.Envelope.{services_in}
use Rattle.ipx_router.specs.inside.Ended.{ServicesAscend, service_ended_on}
use Rattle.ipx_router.specs.Facts.{offers}
use Rattle.ipx_router.specs.Numbers.{services_a_page}
use Rattle.ipx_router.specs.inside.Owed.{Pays, owed}
use Rattle.ipx_router.specs.Sends.{sap_broadcast}
use Rattle.ipx_router.specs.Sorted.{put_all}
use Rattle.ipx_router.specs.Told.{by_name, name_before, told_services}
use Rattle.ipx_router.proofs.withdrawing.periodic.broadcast_merged_services.Given as goal

abbrev pub invariant-loop-service : goal.invariant-loop-service
invariant-loop-service g l = record {
  goes : (goal.iterator-loop-service g).can_next l.service-iterator;
  ends : (goal.iterator-loop-service g).is_finite l.service-iterator;
  pays : Pays l.initial.outbox l.outbox
      (sap_broadcast l.ports l.number (by_name (told_services (offers l.table.records) l.number ++ flat_map (service_ended_on l.number) l.ended_services)))
      (owed services_a_page (services_in false l.envelope) l.page.items
      (put_all name_before l.service-iterator (flat_map (service_ended_on l.envelope.port) l.rest)));
  ascends : ServicesAscend l.rest;
}
