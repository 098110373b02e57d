use Rattle.std.proofs.Common.{sym, subst}
use Rattle.ipx_router.specs.inside.Ended.{RoutesAscend, ServicesAscend}
use Rattle.ipx_router.specs.Facts.{offers}
use Rattle.ipx_router.specs.Outbox.{Fits, Appends}
use Rattle.ipx_router.proofs.ended.SentIsOfEnded.{all_as}
use Rattle.ipx_router.proofs.withdrawing.both_tables.advertise_second.Goals as goal

pub advertise_all-requires : goal.advertise_all-requires
advertise_all-requires g c =
    let a = c.args in
    let routes_up = subst RoutesAscend (sym c.ended-ended.ensures.value) c.requires.routes_ascend in
    let services_up = subst ServicesAscend (sym c.ended-ended_services.ensures.value) c.requires.services_ascend in
    let room = subst (Fits a.outbox.now)
    (all_as a.ports.now a.up.now (offers a.routes.now.records) (offers a.services.now.records) (sym c.ended-ended.ensures.value) (sym c.ended-ended_services.ensures.value) c.if-periodic.true)
    c.requires.room in
    (search, (search, (c.requires.ports, (c.requires.few, (routes_up, (services_up, room))))))

pub advertise_ended-requires-clause-routes_ascend : goal.advertise_ended-requires-clause-routes_ascend
advertise_ended-requires-clause-routes_ascend g c = subst RoutesAscend (sym c.ended-ended.ensures.value) c.requires.routes_ascend

pub advertise_ended-requires-clause-services_ascend : goal.advertise_ended-requires-clause-services_ascend
advertise_ended-requires-clause-services_ascend g c = subst ServicesAscend (sym c.ended-ended_services.ensures.value) c.requires.services_ascend

pub advertise_ended-requires-clause-room : goal.advertise_ended-requires-clause-room
advertise_ended-requires-clause-room g c =
    let a = c.args in
    subst (Fits a.outbox.now)
    (all_as a.ports.now a.up.now (offers a.routes.now.records) (offers a.services.now.records) (sym c.ended-ended.ensures.value) (sym c.ended-ended_services.ensures.value) c.if-periodic.false)
    c.requires.room

pub returns-then-periodic : goal.returns-then-periodic
returns-then-periodic g c =
    let a = c.args in
    subst (Appends a.outbox.now c.advertise_all.new.outbox)
    (sym (all_as a.ports.now a.up.now (offers a.routes.now.records) (offers a.services.now.records) (sym c.ended-ended.ensures.value) (sym c.ended-ended_services.ensures.value) c.if-periodic.true))
    c.advertise_all.ensures

pub returns-else-periodic : goal.returns-else-periodic
returns-else-periodic g c =
    let a = c.args in
    subst (Appends a.outbox.now c.advertise_ended.new.outbox)
    (sym (all_as a.ports.now a.up.now (offers a.routes.now.records) (offers a.services.now.records) (sym c.ended-ended.ensures.value) (sym c.ended-ended_services.ensures.value) c.if-periodic.false))
    c.advertise_ended.ensures

pub ended-ended-requires : goal.ended-ended-requires
ended-ended-requires g c = search

pub ended-ended_services-requires : goal.ended-ended_services-requires
ended-ended_services-requires g c = search
