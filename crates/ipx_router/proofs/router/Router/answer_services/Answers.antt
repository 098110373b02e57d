use Rattle.std.proofs.Common.{arith, ◌<◌, refl, sym, ap, subst, if◌then◌else◌, List, length}
use Rattle.ipx_wire.specs.declared.sap.Sap.TheVariants.{Query}
use Rattle.ipx_router.specs.Facts.{offers}
use Rattle.ipx_router.specs.inside.Following.{Follows, sends_between}
use Rattle.ipx_router.specs.Heard.{HeardSap}
use Rattle.ipx_router.specs.History.{Packet}
use Rattle.ipx_router.specs.Needs.{HasRoomFor}
use Rattle.ipx_router.specs.Outbox.{Fits, Appends}
use Rattle.ipx_router.specs.Port.{port_at, reply_to}
use Rattle.ipx_router.specs.inside.Received.{IsPassed, IsHeard}
use Rattle.ipx_router.specs.Relays.{Sent}
use Rattle.ipx_router.specs.Sends.{nearest_of, of_kind, sap_sends}
use Rattle.ipx_router.specs.Stands.{State}
use Rattle.ipx_router.specs.Told.{told_services}
use Rattle.ipx_router.proofs.verdicts.EffectOfWhatCame.{query_follows, query_sent}
use Rattle.ipx_router.proofs.bounds.RoomIsEnough.{event_fits}
use Rattle.ipx_router.proofs.histories.StateAfterEachEvent.{state_of}
use Rattle.ipx_router.proofs.router.Router.answer_services.Goals as goal

pub answer_query-requires : goal.answer_query-requires
answer_query-requires g c =
    let i = c.self.inside in
    let s = state_of i.ports.items i.running i.up.items i.seconds i.routes.records i.services.records in
    let n = c.args.port in
    let b = c.args.bytes.now in
    let passes : IsPassed s n b = subst (λ (v : State). IsPassed v n b) (sym c.self.view_is) c.requires.passes in
    let is : IsHeard s n b (HeardSap c.args.source (Query c.args.nearest c.args.kind)) = subst (λ (v : State). IsHeard v n b (HeardSap c.args.source (Query c.args.nearest c.args.kind))) (sym c.self.view_is) c.requires.heard in
    let within : n < length s.ports = rw (ap (λ (v : State). length v.ports) c.self.view_is) c.requires.port in
    let need : HasRoomFor s (Packet n b) c.args.outbox.now = subst (λ (v : State). HasRoomFor v (Packet n b) c.args.outbox.now) (sym c.self.view_is) c.requires.room in
    let step = query_follows g.row.R g.row.S s n b c.deref.result.now s.up c.deref.ensures.0 refl c.args.source passes c.args.nearest c.args.kind is in
    let fits = event_fits g.row.R g.row.S s i.routes.shares i.services.shares c.self.invariant s (Packet n b) within c.proves_bytes.ensures step (record { few = c.bounds.ensures.few; short = c.bounds.ensures.short }) c.args.outbox.now need in
    let room : Fits c.args.outbox.now (let found = of_kind c.args.kind (told_services (offers i.services.records) n) in sap_sends c.deref.result.now n (reply_to (port_at c.deref.result.now n) c.args.source) c.args.nearest (if c.args.nearest then nearest_of found else found)) = subst (λ (ps : List Sent). Fits c.args.outbox.now ps) (sym (query_sent g.row.R g.row.S s n b c.deref.result.now s.up c.deref.ensures.0 refl c.args.source passes c.args.nearest c.args.kind is)) fits in
    let there : n < length c.deref.result.now = rw c.deref.ensures.0 within in
    (grind arith, search (room, there))

pub returns-clause-follows : goal.returns-clause-follows
returns-clause-follows g c =
    let i = c.self.inside in
    let s = state_of i.ports.items i.running i.up.items i.seconds i.routes.records i.services.records in
    let n = c.args.port in
    let b = c.args.bytes.now in
    let passes : IsPassed s n b = subst (λ (v : State). IsPassed v n b) (sym c.self.view_is) c.requires.passes in
    let is : IsHeard s n b (HeardSap c.args.source (Query c.args.nearest c.args.kind)) = subst (λ (v : State). IsHeard v n b (HeardSap c.args.source (Query c.args.nearest c.args.kind))) (sym c.self.view_is) c.requires.heard in
    subst (λ (v : State). Follows g.row.R g.row.S v v (Packet n b)) c.self.view_is (query_follows g.row.R g.row.S s n b c.deref.result.now s.up c.deref.ensures.0 refl c.args.source passes c.args.nearest c.args.kind is)

pub returns-clause-sends : goal.returns-clause-sends
returns-clause-sends g c =
    let i = c.self.inside in
    let s = state_of i.ports.items i.running i.up.items i.seconds i.routes.records i.services.records in
    let n = c.args.port in
    let b = c.args.bytes.now in
    let passes : IsPassed s n b = subst (λ (v : State). IsPassed v n b) (sym c.self.view_is) c.requires.passes in
    let is : IsHeard s n b (HeardSap c.args.source (Query c.args.nearest c.args.kind)) = subst (λ (v : State). IsHeard v n b (HeardSap c.args.source (Query c.args.nearest c.args.kind))) (sym c.self.view_is) c.requires.heard in
    subst (λ (v : State). Appends c.args.outbox.now c.answer_query.new.outbox (sends_between v v (Packet n b))) c.self.view_is
    (subst (λ (ps : List Sent). Appends c.args.outbox.now c.answer_query.new.outbox ps) (query_sent g.row.R g.row.S s n b c.deref.result.now s.up c.deref.ensures.0 refl c.args.source passes c.args.nearest c.args.kind is) c.answer_query.ensures)

pub deref-requires : goal.deref-requires
deref-requires g c = grind arith
