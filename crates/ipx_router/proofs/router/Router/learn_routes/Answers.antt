use Rattle.std.proofs.Common.{rules, arith, ◌≡◌, ◌<◌, ◌*◌, refl, sym, ap, subst, List, map, length}
use Rattle.std.specs.List.{AllByRecursion}
use Rattle.ipx_router.specs.Facts.{offers}
use Rattle.ipx_router.specs.inside.Following.{Follows, sends_between}
use Rattle.ipx_router.specs.Heard.{HeardRip}
use Rattle.ipx_router.specs.History.{Packet}
use Rattle.ipx_router.specs.Needs.{HasRoomFor}
use Rattle.ipx_router.specs.Numbers.{most_own_length}
use Rattle.ipx_router.specs.Outbox.{HasRoom, Appends}
use Rattle.ipx_router.specs.inside.Received.{IsPassed, IsHeard}
use Rattle.ipx_router.specs.Relays.{Sent}
use Rattle.ipx_router.specs.Stands.{State}
use Rattle.ipx_router.proofs.changes.ListedForEachPort.{learn_room}
use Rattle.ipx_router.proofs.verdicts.EffectOfWhatCame.{rip_follows, rip_sent}
use Rattle.ipx_router.proofs.bounds.RoomIsEnough.{next_router}
use Rattle.ipx_router.proofs.histories.RouterOneEventMore.{ups_within, ups_fit}
use Rattle.ipx_router.proofs.histories.StateAfterEachEvent.{state_of}
use Rattle.ipx_router.proofs.router.Router.learn_routes.Goals as goal

pub learn_routes-requires : goal.learn_routes-requires
learn_routes-requires g c =
    let i = c.self.inside in
    let s = state_of i.ports.items i.running i.up.items i.seconds i.routes.records i.services.records in
    let n = c.args.port in
    let b = c.args.bytes.now in
    let need : HasRoomFor s (Packet n b) c.args.outbox.now = subst (λ (v : State). HasRoomFor v (Packet n b) c.args.outbox.now) (sym c.self.view_is) c.requires.room in
    let shares : i.routes.shares ≡ map (λ p. p.route_share) c.deref.result.now = rw c.deref.ensures.0 c.self.invariant.routes_shared in
    let all : AllByRecursion (λ j. j < length c.deref.result.now) c.deref-2.result.now = rw (c.deref.ensures.0, c.deref-2.ensures.0) (ups_within g.row.R g.row.S s i.routes.shares i.services.shares c.self.invariant) in
    let room : HasRoom c.args.outbox.now (length c.deref-2.result.now) (length c.deref-2.result.now * most_own_length) =
    rw c.deref-2.ensures.0 (learn_room (length s.ports) (length s.routes) (length s.services) n b s.up (ups_fit g.row.R g.row.S s i.routes.shares i.services.shares c.self.invariant) need) in
    search (rules, shares, all, room)

pub invariant_of-self : goal.invariant_of-self
invariant_of-self g c =
    let i = c.self.inside in
    let s = state_of i.ports.items i.running i.up.items i.seconds i.routes.records i.services.records in
    let n = c.args.port in
    let b = c.args.bytes.now in
    let passes : IsPassed s n b = subst (λ (v : State). IsPassed v n b) (sym c.self.view_is) c.requires.passes in
    let is : IsHeard s n b (HeardRip c.args.source c.args.rip.now) = subst (λ (v : State). IsHeard v n b (HeardRip c.args.source c.args.rip.now)) (sym c.self.view_is) c.requires.heard in
    let within : n < length s.ports = rw (ap (λ (v : State). length v.ports) c.self.view_is) c.requires.port in
    let step = rip_follows g.row.R g.row.S s n b c.deref.result.now c.deref-2.result.now c.deref.ensures.0 c.deref-2.ensures.0 c.args.source passes c.args.rip.now is c.requires.response c.learn_routes.new.table.records c.learn_routes.ensures.stands in
    next_router g.row.R g.row.S s i.routes.shares i.services.shares c.self.invariant (state_of s.ports s.running s.up s.seconds c.learn_routes.new.table.records s.services) (Packet n b) within c.proves_bytes.ensures step
    c.learn_routes.new.table.shares i.services.shares c.learn_routes.ensures.shares refl c.self.invariant.minute

pub returns-clause-follows : goal.returns-clause-follows
returns-clause-follows g c =
    let i = c.self.inside in
    let s = state_of i.ports.items i.running i.up.items i.seconds i.routes.records i.services.records in
    let n = c.args.port in
    let b = c.args.bytes.now in
    let passes : IsPassed s n b = subst (λ (v : State). IsPassed v n b) (sym c.self.view_is) c.requires.passes in
    let is : IsHeard s n b (HeardRip c.args.source c.args.rip.now) = subst (λ (v : State). IsHeard v n b (HeardRip c.args.source c.args.rip.now)) (sym c.self.view_is) c.requires.heard in
    let step = rip_follows g.row.R g.row.S s n b c.deref.result.now c.deref-2.result.now c.deref.ensures.0 c.deref-2.ensures.0 c.args.source passes c.args.rip.now is c.requires.response c.learn_routes.new.table.records c.learn_routes.ensures.stands in
    subst (λ (v : State). Follows g.row.R g.row.S v (state_of s.ports s.running s.up s.seconds c.learn_routes.new.table.records s.services) (Packet n b)) c.self.view_is step

pub returns-clause-sends : goal.returns-clause-sends
returns-clause-sends g c =
    let i = c.self.inside in
    let s = state_of i.ports.items i.running i.up.items i.seconds i.routes.records i.services.records in
    let n = c.args.port in
    let b = c.args.bytes.now in
    let passes : IsPassed s n b = subst (λ (v : State). IsPassed v n b) (sym c.self.view_is) c.requires.passes in
    let is : IsHeard s n b (HeardRip c.args.source c.args.rip.now) = subst (λ (v : State). IsHeard v n b (HeardRip c.args.source c.args.rip.now)) (sym c.self.view_is) c.requires.heard in
    let sent = rip_sent g.row.R g.row.S s n b c.deref.result.now c.deref-2.result.now c.deref.ensures.0 c.deref-2.ensures.0 c.args.source passes c.args.rip.now is c.requires.response c.learn_routes.new.table.records in
    subst (λ (v : State). Appends c.args.outbox.now c.learn_routes.new.outbox (sends_between v (state_of s.ports s.running s.up s.seconds c.learn_routes.new.table.records s.services) (Packet n b))) c.self.view_is
    (subst (λ (ps : List Sent). Appends c.args.outbox.now c.learn_routes.new.outbox ps) sent (c.learn_routes.ensures.sent (offers i.services.records)))

pub deref-requires : goal.deref-requires
deref-requires g c = grind arith

pub deref-requires-2 : goal.deref-requires-2
deref-requires-2 g c = grind arith
