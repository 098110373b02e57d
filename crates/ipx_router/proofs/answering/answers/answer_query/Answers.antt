use Rattle.std.proofs.Common.{sym, subst}
use Rattle.ipx_router.specs.Facts.{offers}
use Rattle.ipx_router.specs.Outbox.{Fits, Appends}
use Rattle.ipx_router.specs.Told.{told_services}
use Rattle.ipx_router.proofs.telling.SentOfTold.{nearest_answered, query_answered}
use Rattle.ipx_router.proofs.answering.answers.answer_query.Goals as goal

pub answer_nearest-requires : goal.answer_nearest-requires
answer_nearest-requires g c =
    let a = c.args in
    let room = subst (Fits a.outbox.now)
    (sym (nearest_answered a.ports.now a.number a.source a.nearest a.kind (told_services (offers a.services.now.records)) c.services_reply-envelope.ensures c.if-nearest.true))
    c.requires.room in
    search room

pub returns-then-nearest : goal.returns-then-nearest
returns-then-nearest g c =
    let a = c.args in
    subst (Appends a.outbox.now c.answer_nearest.new.outbox)
    (nearest_answered a.ports.now a.number a.source a.nearest a.kind (told_services (offers a.services.now.records)) c.services_reply-envelope.ensures c.if-nearest.true)
    c.answer_nearest.ensures

pub send_services-requires : goal.send_services-requires
send_services-requires g c =
    let a = c.args in
    let room = subst (Fits a.outbox.now)
    (sym (query_answered a.ports.now a.number a.source a.nearest a.kind (told_services (offers a.services.now.records)) c.services_reply-envelope.ensures c.if-nearest.false))
    c.requires.room in
    search room

pub returns-else-nearest : goal.returns-else-nearest
returns-else-nearest g c =
    let a = c.args in
    subst (Appends a.outbox.now c.send_services.new.outbox)
    (query_answered a.ports.now a.number a.source a.nearest a.kind (told_services (offers a.services.now.records)) c.services_reply-envelope.ensures c.if-nearest.false)
    c.send_services.ensures
