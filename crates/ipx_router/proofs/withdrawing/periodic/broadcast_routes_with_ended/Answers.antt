use Rattle.std.proofs.Common.{sym, ap, subst}
use Rattle.ipx_router.specs.Facts.{offers}
use Rattle.ipx_router.specs.Outbox.{Fits, Appends}
use Rattle.ipx_router.specs.Sends.{rip_broadcast}
use Rattle.ipx_router.proofs.ended.EndedRises.{told_with_none}
use Rattle.ipx_router.proofs.withdrawing.periodic.broadcast_routes_with_ended.Goals as goal

pub broadcast_routes-requires : goal.broadcast_routes-requires
broadcast_routes-requires g c =
    let a = c.args in
    let room = subst (Fits a.outbox.now)
    (ap (rip_broadcast a.ports.now a.number)
    (told_with_none a.ports.now a.up.now (offers a.table.now.records) a.number a.ended.now c.if-is_empty.ensures))
    c.requires.room in
    search room

pub returns-then-is_empty : goal.returns-then-is_empty
returns-then-is_empty g c =
    let a = c.args in
    subst (Appends a.outbox.now c.broadcast_routes.new.outbox)
    (sym (ap (rip_broadcast a.ports.now a.number)
    (told_with_none a.ports.now a.up.now (offers a.table.now.records) a.number a.ended.now c.if-is_empty.ensures)))
    c.broadcast_routes.ensures
