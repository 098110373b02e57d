use Rattle.std.proofs.Common.{◌<◌, ◌++◌, length, get_or}
use Rattle.std.specs.List.{flat_map}
use Rattle.ipx_table.proofs.Seconds.{all-at}
use Rattle.ipx_router.specs.inside.Ended.{ended_on, service_ended_on}
use Rattle.ipx_router.specs.inside.EndedSends.{periodic_sends}
use Rattle.ipx_router.specs.Facts.{offers}
use Rattle.ipx_router.specs.Sends.{rip_broadcast, sap_broadcast}
use Rattle.ipx_router.specs.Told.{by_network, by_name, told, told_services}
use Rattle.ipx_router.proofs.sending.OneAfterAnother.{appends_then, fits_front, fits_then, next_fits, next_pays}
use Rattle.ipx_router.proofs.withdrawing.both_tables.advertise_all.Goals as goal

pub broadcast_routes_with_ended-requires : goal.broadcast_routes_with_ended-requires
broadcast_routes_with_ended-requires g c =
    let a = c.args in
    let up = a.up.now in
    let place = c.loop-number.number-index in
    let number = get_or up place 0 in
    let routes = offers a.routes.now.records in
    let services = offers a.services.now.records in
    let room = fits_front (rip_broadcast a.ports.now number (by_network (told a.ports.now up routes number ++ flat_map (ended_on number) a.ended.now)))
    (sap_broadcast a.ports.now number (by_name (told_services services number ++ flat_map (service_ended_on number) a.ended_services.now)))
    (next_fits (periodic_sends a.ports.now a.ended.now a.ended_services.now up routes services) up place 0 c.loop-number-test.true c.loop-number.invariant c.requires.room) in
    let within = all-at (λ j. j < length a.ports.now) up place 0 c.loop-number-test.true c.requires.ports in
    (search, (within, (c.requires.ports, (c.requires.few, (c.requires.routes_ascend, room)))))

pub broadcast_services_with_ended-requires : goal.broadcast_services_with_ended-requires
broadcast_services_with_ended-requires g c =
    let a = c.args in
    let up = a.up.now in
    let place = c.loop-number.number-index in
    let number = get_or up place 0 in
    let routes = offers a.routes.now.records in
    let services = offers a.services.now.records in
    let room = fits_then (rip_broadcast a.ports.now number (by_network (told a.ports.now up routes number ++ flat_map (ended_on number) a.ended.now)))
    (sap_broadcast a.ports.now number (by_name (told_services services number ++ flat_map (service_ended_on number) a.ended_services.now)))
    (next_fits (periodic_sends a.ports.now a.ended.now a.ended_services.now up routes services) up place 0 c.loop-number-test.true c.loop-number.invariant c.requires.room)
    c.broadcast_routes_with_ended.ensures in
    let within = all-at (λ j. j < length a.ports.now) up place 0 c.loop-number-test.true c.requires.ports in
    (search, (within, (c.requires.services_ascend, room)))

pub loop-number-preserved : goal.loop-number-preserved
loop-number-preserved g c =
    let a = c.args in
    next_pays (periodic_sends a.ports.now a.ended.now a.ended_services.now a.up.now (offers a.routes.now.records) (offers a.services.now.records)) a.up.now c.loop-number.number-index 0
    c.loop-number-test.true c.loop-number.invariant (appends_then c.broadcast_routes_with_ended.ensures c.broadcast_services_with_ended.ensures)
