use Rattle.std.proofs.Common.{◌<◌, refl, sym, ap, subst, List, [], ◌∷◌, length, arith}
use Rattle.ipx_wire.specs.Forward.{forwarded}
use Rattle.ipx_wire.specs.Write.{packet_bytes}
use Rattle.ipx_router.specs.inside.Following.{Follows, sends_between}
use Rattle.ipx_router.specs.History.{Packet}
use Rattle.ipx_router.specs.Needs.{HasRoomFor}
use Rattle.ipx_router.specs.Outbox.{Fits, Appends}
use Rattle.ipx_router.specs.inside.Received.{IsSentOnTo}
use Rattle.ipx_router.specs.Relays.{Sent}
use Rattle.ipx_router.specs.Stands.{State}
use Rattle.ipx_router.proofs.verdicts.EffectOfWhatCame.{onward_follows, forwarded_sent}
use Rattle.ipx_router.proofs.bounds.RoomIsEnough.{event_fits}
use Rattle.ipx_router.proofs.histories.StateAfterEachEvent.{state_of}
use Rattle.ipx_router.proofs.router.Router.forward.Goals as goal

pub append_forwarded-requires : goal.append_forwarded-requires
append_forwarded-requires g c =
    let i = c.self.inside in
    let s = state_of i.ports.items i.running i.up.items i.seconds i.routes.records i.services.records in
    let n = c.args.port in
    let b = c.args.bytes.now in
    let on : IsSentOnTo s n b c.args.packet.now c.args.out c.args.link = subst (λ (v : State). IsSentOnTo v n b c.args.packet.now c.args.out c.args.link) (sym c.self.view_is) c.requires.on in
    let within : n < length s.ports = rw (ap (λ (v : State). length v.ports) c.self.view_is) c.requires.port in
    let need : HasRoomFor s (Packet n b) c.args.outbox.now = subst (λ (v : State). HasRoomFor v (Packet n b) c.args.outbox.now) (sym c.self.view_is) c.requires.room in
    let step = onward_follows s n b c.args.packet.now on.0 g.row.R g.row.S in
    let fits = event_fits g.row.R g.row.S s i.routes.shares i.services.shares c.self.invariant s (Packet n b) within c.proves_bytes.ensures step (record { few = c.bounds.ensures.few; short = c.bounds.ensures.short }) c.args.outbox.now need in
    let room : Fits c.args.outbox.now (record { port = c.args.out; link = c.args.link; bytes = packet_bytes (forwarded c.args.packet.now) } ∷ []) = subst (λ (ps : List Sent). Fits c.args.outbox.now ps) (sym (forwarded_sent s n b s.ports s.up refl refl c.args.packet.now c.args.out c.args.link on)) fits in
    let few : c.args.packet.now.header.control < 16 = on.2.few in
    let control : c.args.packet.now.header.control < 255 = omega (arith, few) in
    search (room, control)

pub returns-clause-follows : goal.returns-clause-follows
returns-clause-follows g c =
    let i = c.self.inside in
    let s = state_of i.ports.items i.running i.up.items i.seconds i.routes.records i.services.records in
    let n = c.args.port in
    let b = c.args.bytes.now in
    let on : IsSentOnTo s n b c.args.packet.now c.args.out c.args.link = subst (λ (v : State). IsSentOnTo v n b c.args.packet.now c.args.out c.args.link) (sym c.self.view_is) c.requires.on in
    subst (λ (v : State). Follows g.row.R g.row.S v v (Packet n b)) c.self.view_is (onward_follows s n b c.args.packet.now on.0 g.row.R g.row.S)

pub returns-clause-sends : goal.returns-clause-sends
returns-clause-sends g c =
    let i = c.self.inside in
    let s = state_of i.ports.items i.running i.up.items i.seconds i.routes.records i.services.records in
    let n = c.args.port in
    let b = c.args.bytes.now in
    let on : IsSentOnTo s n b c.args.packet.now c.args.out c.args.link = subst (λ (v : State). IsSentOnTo v n b c.args.packet.now c.args.out c.args.link) (sym c.self.view_is) c.requires.on in
    subst (λ (v : State). Appends c.args.outbox.now c.append_forwarded.new.self (sends_between v v (Packet n b))) c.self.view_is
    (subst (λ (ps : List Sent). Appends c.args.outbox.now c.append_forwarded.new.self ps) (forwarded_sent s n b s.ports s.up refl refl c.args.packet.now c.args.out c.args.link on) c.append_forwarded.ensures)
