use Rattle.std.proofs.Common.{arith, ◌<◌, ◌≤◌, sym, ap, subst, List, length}
use Rattle.std.specs.List.{AllByRecursion}
use Rattle.ipx_wire.specs.declared.rip.Operation.TheVariants.{Response}
use Rattle.ipx_router.specs.Facts.{offers}
use Rattle.ipx_router.specs.inside.Following.{Follows, sends_between}
use Rattle.ipx_router.specs.Heard.{HeardRip}
use Rattle.ipx_router.specs.History.{Packet}
use Rattle.ipx_router.specs.Needs.{HasRoomFor}
use Rattle.ipx_router.specs.Outbox.{Fits, Appends}
use Rattle.ipx_router.specs.Port.{port_at, reply_to}
use Rattle.ipx_router.specs.inside.Received.{IsPassed, IsHeard}
use Rattle.ipx_router.specs.Relays.{Sent}
use Rattle.ipx_router.specs.Sends.{asked, rip_sends}
use Rattle.ipx_router.specs.Stands.{State}
use Rattle.ipx_router.specs.Told.{told}
use Rattle.ipx_router.proofs.verdicts.EffectOfWhatCame.{request_follows, request_sent}
use Rattle.ipx_router.proofs.bounds.RoomIsEnough.{event_fits}
use Rattle.ipx_router.proofs.histories.RouterOneEventMore.{ups_within, few_ups}
use Rattle.ipx_router.proofs.histories.StateAfterEachEvent.{state_of}
use Rattle.ipx_router.proofs.router.Router.answer_routes.Goals as goal

pub answer_request-requires : goal.answer_request-requires
answer_request-requires g c =
    let i = c.self.inside in
    let s = state_of i.ports.items i.running i.up.items i.seconds i.routes.records i.services.records in
    let n = c.args.port in
    let b = c.args.bytes.now in
    let passes : IsPassed s n b = subst (λ (v : State). IsPassed v n b) (sym c.self.view_is) c.requires.passes in
    let is : IsHeard s n b (HeardRip c.args.source c.args.rip.now) = subst (λ (v : State). IsHeard v n b (HeardRip c.args.source c.args.rip.now)) (sym c.self.view_is) c.requires.heard in
    let within : n < length s.ports = rw (ap (λ (v : State). length v.ports) c.self.view_is) c.requires.port in
    let need : HasRoomFor s (Packet n b) c.args.outbox.now = subst (λ (v : State). HasRoomFor v (Packet n b) c.args.outbox.now) (sym c.self.view_is) c.requires.room in
    let step = request_follows g.row.R g.row.S s n b c.deref.result.now c.deref-2.result.now c.deref.ensures.0 c.deref-2.ensures.0 c.args.source passes c.args.rip.now is c.requires.request in
    let fits = event_fits g.row.R g.row.S s i.routes.shares i.services.shares c.self.invariant s (Packet n b) within c.proves_bytes.ensures step (record { few = c.bounds.ensures.few; short = c.bounds.ensures.short }) c.args.outbox.now need in
    let room : Fits c.args.outbox.now (rip_sends c.deref.result.now n (reply_to (port_at c.deref.result.now n) c.args.source) Response (asked c.args.rip.now.entries (told c.deref.result.now c.deref-2.result.now (offers i.routes.records) n))) = subst (λ (ps : List Sent). Fits c.args.outbox.now ps) (sym (request_sent g.row.R g.row.S s n b c.deref.result.now c.deref-2.result.now c.deref.ensures.0 c.deref-2.ensures.0 c.args.source passes c.args.rip.now is c.requires.request)) fits in
    let there : n < length c.deref.result.now = rw c.deref.ensures.0 within in
    let all : AllByRecursion (λ j. j < length c.deref.result.now) c.deref-2.result.now = rw (c.deref.ensures.0, c.deref-2.ensures.0) (ups_within g.row.R g.row.S s i.routes.shares i.services.shares c.self.invariant) in
    let few : length c.deref-2.result.now ≤ 32 = rw c.deref-2.ensures.0 (few_ups g.row.R g.row.S s i.routes.shares i.services.shares c.self.invariant) in
    (grind arith, search (room, there, all, few))

pub returns-clause-follows : goal.returns-clause-follows
returns-clause-follows g c =
    let i = c.self.inside in
    let s = state_of i.ports.items i.running i.up.items i.seconds i.routes.records i.services.records in
    let n = c.args.port in
    let b = c.args.bytes.now in
    let passes : IsPassed s n b = subst (λ (v : State). IsPassed v n b) (sym c.self.view_is) c.requires.passes in
    let is : IsHeard s n b (HeardRip c.args.source c.args.rip.now) = subst (λ (v : State). IsHeard v n b (HeardRip c.args.source c.args.rip.now)) (sym c.self.view_is) c.requires.heard in
    subst (λ (v : State). Follows g.row.R g.row.S v v (Packet n b)) c.self.view_is (request_follows g.row.R g.row.S s n b c.deref.result.now c.deref-2.result.now c.deref.ensures.0 c.deref-2.ensures.0 c.args.source passes c.args.rip.now is c.requires.request)

pub returns-clause-sends : goal.returns-clause-sends
returns-clause-sends g c =
    let i = c.self.inside in
    let s = state_of i.ports.items i.running i.up.items i.seconds i.routes.records i.services.records in
    let n = c.args.port in
    let b = c.args.bytes.now in
    let passes : IsPassed s n b = subst (λ (v : State). IsPassed v n b) (sym c.self.view_is) c.requires.passes in
    let is : IsHeard s n b (HeardRip c.args.source c.args.rip.now) = subst (λ (v : State). IsHeard v n b (HeardRip c.args.source c.args.rip.now)) (sym c.self.view_is) c.requires.heard in
    subst (λ (v : State). Appends c.args.outbox.now c.answer_request.new.outbox (sends_between v v (Packet n b))) c.self.view_is
    (subst (λ (ps : List Sent). Appends c.args.outbox.now c.answer_request.new.outbox ps) (request_sent g.row.R g.row.S s n b c.deref.result.now c.deref-2.result.now c.deref.ensures.0 c.deref-2.ensures.0 c.args.source passes c.args.rip.now is c.requires.request) c.answer_request.ensures)

pub deref-requires : goal.deref-requires
deref-requires g c = grind arith

pub deref-requires-2 : goal.deref-requires-2
deref-requires-2 g c = grind arith
