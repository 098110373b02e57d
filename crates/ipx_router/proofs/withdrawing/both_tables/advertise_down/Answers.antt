use Rattle.std.proofs.Common.{sym, ap, subst, ◌∙◌, ◌∷◌, get_or}
use Rattle.std.specs.List.{flat_map}
use Rattle.ipx_wire.specs.declared.rip.RipEntry.{RipEntry}
use Rattle.ipx_router.specs.inside.Ended.{ended_on, service_ended_on}
use Rattle.ipx_router.specs.inside.EndedSends.{down_sends}
use Rattle.ipx_router.specs.Outbox.{Fits, Appends}
use Rattle.ipx_router.specs.Sends.{rip_broadcast, sap_broadcast}
use Rattle.ipx_router.specs.Told.{by_network, dead, direct_entry}
use Rattle.ipx_router.proofs.sending.OneAfterAnother.{appends_then, fits_front, fits_then, next_fits, next_pays}
use Rattle.ipx_router.proofs.withdrawing.both_tables.advertise_down.Goals as goal

pub broadcast_ended_with-requires-clause-room : goal.broadcast_ended_with-requires-clause-room
broadcast_ended_with-requires-clause-room c =
    let a = c.args in
    let up = a.up.now in
    let place = c.loop-number.number-index in
    let number = get_or up place 0 in
    let entries = λ (entry : RipEntry). by_network (entry ∷ flat_map (ended_on number) a.ended.now) in
    subst (λ (entry : RipEntry). Fits c.loop-number.outbox (rip_broadcast a.ports.now number (by_network (entry ∷ flat_map (ended_on number) a.ended.now))))
    (sym (c.dead-network.ensures ∙ ap dead c.direct_entry.ensures))
    (fits_front (rip_broadcast a.ports.now number (entries (dead (direct_entry a.ports.now a.port)))) (sap_broadcast a.ports.now number (flat_map (service_ended_on number) a.ended_services.now))
    (next_fits (down_sends a.ports.now a.ended.now a.ended_services.now a.port) up place 0 c.loop-number-test.true c.loop-number.invariant c.requires.room))

pub broadcast_ended_services-requires-clause-room : goal.broadcast_ended_services-requires-clause-room
broadcast_ended_services-requires-clause-room c =
    let a = c.args in
    let up = a.up.now in
    let place = c.loop-number.number-index in
    let number = get_or up place 0 in
    let entries = λ (entry : RipEntry). by_network (entry ∷ flat_map (ended_on number) a.ended.now) in
    fits_then (rip_broadcast a.ports.now number (entries (dead (direct_entry a.ports.now a.port)))) (sap_broadcast a.ports.now number (flat_map (service_ended_on number) a.ended_services.now))
    (next_fits (down_sends a.ports.now a.ended.now a.ended_services.now a.port) up place 0 c.loop-number-test.true c.loop-number.invariant c.requires.room)
    (subst (λ (entry : RipEntry). Appends c.loop-number.outbox c.broadcast_ended_with.new.outbox (rip_broadcast a.ports.now number (by_network (entry ∷ flat_map (ended_on number) a.ended.now))))
    (c.dead-network.ensures ∙ ap dead c.direct_entry.ensures) c.broadcast_ended_with.ensures)

pub loop-number-preserved : goal.loop-number-preserved
loop-number-preserved c =
    let a = c.args in
    let number = get_or a.up.now c.loop-number.number-index 0 in
    next_pays (down_sends a.ports.now a.ended.now a.ended_services.now a.port) a.up.now c.loop-number.number-index 0 c.loop-number-test.true c.loop-number.invariant
    (appends_then
    (subst (λ (entry : RipEntry). Appends c.loop-number.outbox c.broadcast_ended_with.new.outbox (rip_broadcast a.ports.now number (by_network (entry ∷ flat_map (ended_on number) a.ended.now))))
    (c.dead-network.ensures ∙ ap dead c.direct_entry.ensures) c.broadcast_ended_with.ensures)
    c.broadcast_ended_services.ensures)
