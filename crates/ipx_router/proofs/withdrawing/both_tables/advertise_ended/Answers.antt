use Rattle.std.proofs.Common.{get_or}
use Rattle.std.specs.List.{flat_map}
use Rattle.ipx_router.specs.inside.Ended.{ended_on, service_ended_on}
use Rattle.ipx_router.specs.inside.EndedSends.{ended_sends}
use Rattle.ipx_router.specs.Sends.{rip_broadcast, sap_broadcast}
use Rattle.ipx_router.proofs.sending.OneAfterAnother.{appends_then, fits_front, fits_then, next_fits, next_pays}
use Rattle.ipx_router.proofs.withdrawing.both_tables.advertise_ended.Goals as goal

pub broadcast_ended-requires-clause-room : goal.broadcast_ended-requires-clause-room
broadcast_ended-requires-clause-room c =
    let a = c.args in
    let up = a.up.now in
    let place = c.loop-number.number-index in
    let number = get_or up place 0 in
    fits_front (rip_broadcast a.ports.now number (flat_map (ended_on number) a.ended.now)) (sap_broadcast a.ports.now number (flat_map (service_ended_on number) a.ended_services.now))
    (next_fits (ended_sends a.ports.now a.ended.now a.ended_services.now) up place 0 c.loop-number-test.true c.loop-number.invariant c.requires.room)

pub broadcast_ended_services-requires-clause-room : goal.broadcast_ended_services-requires-clause-room
broadcast_ended_services-requires-clause-room c =
    let a = c.args in
    let up = a.up.now in
    let place = c.loop-number.number-index in
    let number = get_or up place 0 in
    fits_then (rip_broadcast a.ports.now number (flat_map (ended_on number) a.ended.now)) (sap_broadcast a.ports.now number (flat_map (service_ended_on number) a.ended_services.now))
    (next_fits (ended_sends a.ports.now a.ended.now a.ended_services.now) up place 0 c.loop-number-test.true c.loop-number.invariant c.requires.room)
    c.broadcast_ended.ensures

pub loop-number-preserved : goal.loop-number-preserved
loop-number-preserved c =
    let a = c.args in
    next_pays (ended_sends a.ports.now a.ended.now a.ended_services.now) a.up.now c.loop-number.number-index 0 c.loop-number-test.true c.loop-number.invariant
    (appends_then c.broadcast_ended.ensures c.broadcast_ended_services.ensures)
