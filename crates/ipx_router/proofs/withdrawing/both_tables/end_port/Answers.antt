use Rattle.std.proofs.Common.{sym, ◌∙◌, subst}
use Rattle.ipx_router.specs.inside.Ended.{RoutesAscend, ServicesAscend}
use Rattle.ipx_router.specs.Outbox.{Fits, Appends}
use Rattle.ipx_router.proofs.ended.SentIsOfEnded.{port_down_as}
use Rattle.ipx_router.proofs.withdrawing.both_tables.end_port.Goals as goal

pub advertise_down-requires-clause-routes_ascend : goal.advertise_down-requires-clause-routes_ascend
advertise_down-requires-clause-routes_ascend g c = subst RoutesAscend (sym c.ended.ensures.value) c.end_port_in_place.ensures.by_key

pub advertise_down-requires-clause-services_ascend : goal.advertise_down-requires-clause-services_ascend
advertise_down-requires-clause-services_ascend g c = subst ServicesAscend (sym c.ended-2.ensures.value) c.end_port_in_place-2.ensures.by_key

pub advertise_down-requires-clause-room : goal.advertise_down-requires-clause-room
advertise_down-requires-clause-room g c =
    let a = c.args in
    subst (Fits a.outbox.now)
    (port_down_as a.ports.now a.up.now a.routes.now.records a.services.now.records c.proves_by_key.ensures.routes c.proves_by_key.ensures.services a.port
    (c.ended.ensures.value ∙ c.end_port_in_place.ensures.ended) (c.ended-2.ensures.value ∙ c.end_port_in_place-2.ensures.ended))
    c.requires.room

pub returns-clause-sends : goal.returns-clause-sends
returns-clause-sends g c =
    let a = c.args in
    subst (Appends a.outbox.now c.advertise_down.new.outbox)
    (sym (port_down_as a.ports.now a.up.now a.routes.now.records a.services.now.records c.proves_by_key.ensures.routes c.proves_by_key.ensures.services a.port
    (c.ended.ensures.value ∙ c.end_port_in_place.ensures.ended) (c.ended-2.ensures.value ∙ c.end_port_in_place-2.ensures.ended)))
    c.advertise_down.ensures

pub proves_by_key-requires : goal.proves_by_key-requires
proves_by_key-requires g c = search

pub end_port_in_place-requires : goal.end_port_in_place-requires
end_port_in_place-requires g c = search

pub end_port_in_place-requires-2 : goal.end_port_in_place-requires-2
end_port_in_place-requires-2 g c = search

pub ended-requires : goal.ended-requires
ended-requires g c = search

pub ended-requires-2 : goal.ended-requires-2
ended-requires-2 g c = search

pub clear_ended-requires : goal.clear_ended-requires
clear_ended-requires g c = search

pub clear_ended-requires-2 : goal.clear_ended-requires-2
clear_ended-requires-2 g c = search
