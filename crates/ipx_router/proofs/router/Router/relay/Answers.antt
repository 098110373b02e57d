use Rattle.std.proofs.Common.{arith, rules, true, ◌≡◌, ◌<◌, ◌≤◌, ◌*◌, sym, ap, ◌∙◌, subst, List, ℕ, length}
use Rattle.std.specs.List.{AllByRecursion}
use Rattle.ipx_router.specs.Facts.{offers}
use Rattle.ipx_router.specs.Outbox.{HasRoom, Appends}
use Rattle.ipx_router.specs.Port.{Port, is_up}
use Rattle.ipx_router.specs.Relay.{relay_outcome, relay_sends, relay_places}
use Rattle.ipx_router.specs.Relays.{Sent}
use Rattle.ipx_router.specs.Stands.{State}
use Rattle.ipx_router.proofs.histories.RouterOneEventMore.{ups_fit, ups_within, routes_up}
use Rattle.ipx_router.proofs.histories.StateAfterEachEvent.{state_of}
use Rattle.ipx_router.proofs.router.Router.relay.Goals as goal

pub relay-requires : goal.relay-requires
relay-requires g c =
    let i = c.self.inside in
    let s = state_of i.ports.items i.running i.up.items i.seconds i.routes.records i.services.records in
    let size = c.args.packet.now.header.length in
    let within : c.args.port < length s.ports = rw (ap (λ (v : State). length v.ports) c.self.view_is) c.requires.port in
    let port : c.args.port < length c.deref.result.now = rw c.deref.ensures.0 within in
    let up : length c.deref-2.result.now ≤ length c.deref.result.now =
    rw (c.deref.ensures.0, c.deref-2.ensures.0) (ups_fit g.row.R g.row.S s i.routes.shares i.services.shares c.self.invariant) in
    let here : HasRoom c.args.outbox.now (relay_places s.ports) (relay_places s.ports * size) =
    subst (λ (v : State). HasRoom c.args.outbox.now (relay_places v.ports) (relay_places v.ports * size)) (sym c.self.view_is) c.requires.room in
    let room : HasRoom c.args.outbox.now (relay_places c.deref.result.now) (relay_places c.deref.result.now * size) =
    subst (λ (ps : List Port). HasRoom c.args.outbox.now (relay_places ps) (relay_places ps * size)) (sym c.deref.ensures.0) here in
    let ups : AllByRecursion (λ j. j < length c.deref.result.now) c.deref-2.result.now =
    rw (c.deref.ensures.0, c.deref-2.ensures.0) (ups_within g.row.R g.row.S s i.routes.shares i.services.shares c.self.invariant) in
    let by_ups : AllByRecursion (λ r. is_up c.deref-2.result.now r.port ≡ true) (offers i.routes.records) =
    rw c.deref-2.ensures.0 (routes_up g.row.R g.row.S s i.routes.shares i.services.shares c.self.invariant) in
    search (rules, port, up, ups, by_ups, room)

pub returns-clause-outcome : goal.returns-clause-outcome
returns-clause-outcome g c =
    let i = c.self.inside in
    let n = c.args.port in
    let p = c.args.packet.now in
    c.relay.ensures.outcome
    ∙ ap (λ (ps : List Port). relay_outcome ps c.deref-2.result.now (offers i.routes.records) i.running n p) c.deref.ensures.0
    ∙ ap (λ (us : List ℕ). relay_outcome i.ports.items us (offers i.routes.records) i.running n p) c.deref-2.ensures.0
    ∙ ap (λ (v : State). relay_outcome v.ports v.up (offers v.routes) v.running n p) c.self.view_is

pub returns-clause-sends : goal.returns-clause-sends
returns-clause-sends g c =
    let i = c.self.inside in
    let n = c.args.port in
    let p = c.args.packet.now in
    subst (λ (ps : List Sent). Appends c.args.outbox.now c.relay.new.outbox ps)
    (ap (λ (ps : List Port). relay_sends ps c.deref-2.result.now (offers i.routes.records) i.running n p) c.deref.ensures.0
    ∙ ap (λ (us : List ℕ). relay_sends i.ports.items us (offers i.routes.records) i.running n p) c.deref-2.ensures.0
    ∙ ap (λ (v : State). relay_sends v.ports v.up (offers v.routes) v.running n p) c.self.view_is)
    c.relay.ensures.sends

pub deref-requires : goal.deref-requires
deref-requires g c = grind arith

pub deref-requires-2 : goal.deref-requires-2
deref-requires-2 g c = grind arith
