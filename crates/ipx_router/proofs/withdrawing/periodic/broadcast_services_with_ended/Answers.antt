use Rattle.std.proofs.Common.{sym, ap, subst}
use Rattle.ipx_router.specs.Facts.{offers}
use Rattle.ipx_router.specs.Outbox.{Fits, Appends}
use Rattle.ipx_router.specs.Sends.{sap_broadcast}
use Rattle.ipx_router.proofs.ended.EndedRises.{services_with_none}
use Rattle.ipx_router.proofs.withdrawing.periodic.broadcast_services_with_ended.Goals as goal

pub broadcast_services-requires : goal.broadcast_services-requires
broadcast_services-requires g c =
    let a = c.args in
    let room = subst (Fits a.outbox.now)
    (ap (sap_broadcast a.ports.now a.number)
    (services_with_none (offers a.table.now.records) a.number a.ended_services.now c.if-is_empty.ensures))
    c.requires.room in
    search room

pub returns-then-is_empty : goal.returns-then-is_empty
returns-then-is_empty g c =
    let a = c.args in
    subst (Appends a.outbox.now c.broadcast_services.new.outbox)
    (sym (ap (sap_broadcast a.ports.now a.number)
    (services_with_none (offers a.table.now.records) a.number a.ended_services.now c.if-is_empty.ensures)))
    c.broadcast_services.ensures
