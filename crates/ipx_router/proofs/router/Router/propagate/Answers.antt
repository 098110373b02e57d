use Rattle.std.proofs.Common.{arith, rules, ◌<◌, sym, ap, subst, List, length}
use Rattle.std.specs.List.{AllByRecursion, flat_map}
use Rattle.ipx_router.specs.inside.Following.{Follows, sends_between}
use Rattle.ipx_router.specs.History.{Packet}
use Rattle.ipx_router.specs.Needs.{HasRoomFor}
use Rattle.ipx_router.specs.Outbox.{Fits, Appends}
use Rattle.ipx_router.specs.inside.Received.{IsSentOn}
use Rattle.ipx_router.specs.Relays.{Sent, propagated_on}
use Rattle.ipx_router.specs.Stands.{State}
use Rattle.ipx_router.proofs.verdicts.EffectOfWhatCame.{onward_follows, propagated_sent}
use Rattle.ipx_router.proofs.bounds.RoomIsEnough.{event_fits}
use Rattle.ipx_router.proofs.histories.RouterOneEventMore.{ups_within}
use Rattle.ipx_router.proofs.histories.StateAfterEachEvent.{state_of}
use Rattle.ipx_router.proofs.router.Router.propagate.Goals as goal

pub propagate-requires : goal.propagate-requires
propagate-requires g c =
    let i = c.self.inside in
    let s = state_of i.ports.items i.running i.up.items i.seconds i.routes.records i.services.records in
    let n = c.args.port in
    let b = c.args.bytes.now in
    let on : IsSentOn s n b c.args.packet.now c.args.crossed.now = subst (λ (v : State). IsSentOn v n b c.args.packet.now c.args.crossed.now) (sym c.self.view_is) c.requires.on in
    let within : n < length s.ports = rw (ap (λ (v : State). length v.ports) c.self.view_is) c.requires.port in
    let need : HasRoomFor s (Packet n b) c.args.outbox.now = subst (λ (v : State). HasRoomFor v (Packet n b) c.args.outbox.now) (sym c.self.view_is) c.requires.room in
    let step = onward_follows s n b c.args.packet.now on.0 g.row.R g.row.S in
    let fits = event_fits g.row.R g.row.S s i.routes.shares i.services.shares c.self.invariant s (Packet n b) within c.proves_bytes.ensures step (record { few = c.bounds.ensures.few; short = c.bounds.ensures.short }) c.args.outbox.now need in
    let room : Fits c.args.outbox.now (flat_map (propagated_on c.deref.result.now n c.args.packet.now) c.deref-2.result.now) = subst (λ (ps : List Sent). Fits c.args.outbox.now ps) (sym (propagated_sent s n b c.deref.result.now c.deref-2.result.now c.deref.ensures.0 c.deref-2.ensures.0 c.args.packet.now c.args.crossed.now on)) fits in
    let listed = on.2 in
    let port : n < length c.deref.result.now = rw c.deref.ensures.0 within in
    let ups : AllByRecursion (λ j. j < length c.deref.result.now) c.deref-2.result.now =
    rw (c.deref.ensures.0, c.deref-2.ensures.0) (ups_within g.row.R g.row.S s i.routes.shares i.services.shares c.self.invariant) in
    search (rules, port, ups, room, listed)

pub returns-clause-follows : goal.returns-clause-follows
returns-clause-follows g c =
    let i = c.self.inside in
    let s = state_of i.ports.items i.running i.up.items i.seconds i.routes.records i.services.records in
    let n = c.args.port in
    let b = c.args.bytes.now in
    let on : IsSentOn s n b c.args.packet.now c.args.crossed.now = subst (λ (v : State). IsSentOn v n b c.args.packet.now c.args.crossed.now) (sym c.self.view_is) c.requires.on in
    subst (λ (v : State). Follows g.row.R g.row.S v v (Packet n b)) c.self.view_is (onward_follows s n b c.args.packet.now on.0 g.row.R g.row.S)

pub returns-clause-sends : goal.returns-clause-sends
returns-clause-sends g c =
    let i = c.self.inside in
    let s = state_of i.ports.items i.running i.up.items i.seconds i.routes.records i.services.records in
    let n = c.args.port in
    let b = c.args.bytes.now in
    let on : IsSentOn s n b c.args.packet.now c.args.crossed.now = subst (λ (v : State). IsSentOn v n b c.args.packet.now c.args.crossed.now) (sym c.self.view_is) c.requires.on in
    subst (λ (v : State). Appends c.args.outbox.now c.propagate.new.outbox (sends_between v v (Packet n b))) c.self.view_is
    (subst (λ (ps : List Sent). Appends c.args.outbox.now c.propagate.new.outbox ps) (propagated_sent s n b c.deref.result.now c.deref-2.result.now c.deref.ensures.0 c.deref-2.ensures.0 c.args.packet.now c.args.crossed.now on) c.propagate.ensures)

pub deref-requires : goal.deref-requires
deref-requires g c = grind arith

pub deref-requires-2 : goal.deref-requires-2
deref-requires-2 g c = grind arith
