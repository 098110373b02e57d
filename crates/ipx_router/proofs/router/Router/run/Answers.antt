use Rattle.std.proofs.Common.{◌≡◌, ◌<◌, ◌≤◌, refl, sym, ap, ◌∙◌, subst, true, false, List, length, arith, lit<}
use Rattle.std.specs.List.{AllByRecursion, flat_map}
use Rattle.ipx_router.specs.Facts.{offers}
use Rattle.ipx_router.specs.inside.Following.{Follows, sends_between}
use Rattle.ipx_router.specs.History.{Start}
use Rattle.ipx_router.specs.Needs.{HasRoomFor}
use Rattle.ipx_router.specs.Outbox.{Fits, Appends}
use Rattle.ipx_router.specs.Port.{numbers}
use Rattle.ipx_router.specs.Relays.{Sent}
use Rattle.ipx_router.specs.Sends.{introduction}
use Rattle.ipx_router.specs.Stands.{State}
use Rattle.ipx_router.proofs.bounds.ItemsOfEachList.{length-numbers}
use Rattle.ipx_router.proofs.port_values.PortOfEachNumber.{numbers_below}
use Rattle.ipx_router.proofs.bounds.RoomIsEnough.{next_router}
use Rattle.ipx_router.proofs.histories.RouterOneEventMore.{start_follows, start_sends, run_room, stopped_routes, stopped_services}
use Rattle.ipx_router.proofs.histories.StateAfterEachEvent.{state_of}
use Rattle.ipx_router.proofs.router.Router.run.Goals as goal

pub introduce_all-requires : goal.introduce_all-requires
introduce_all-requires g c =
    let i = c.self.inside in
    let s = state_of i.ports.items i.running i.up.items i.seconds i.routes.records i.services.records in
    let ups = c.numbers_below-up.result.items in
    let halted : s.running ≡ false = ap (λ (v : State). v.running) c.self.view_is ∙ c.requires.stopped in
    let are : ups ≡ numbers (length s.ports) = c.numbers_below-up.ensures ∙ ap numbers c.len.ensures.value in
    let need : HasRoomFor s Start c.args.outbox.now = subst (λ (v : State). HasRoomFor v Start c.args.outbox.now) (sym c.self.view_is) c.requires.room in
    let fits = run_room g.row.R g.row.S s i.routes.shares i.services.shares c.self.invariant (record { few = c.bounds.ensures.few; short = c.bounds.ensures.short })
    c.args.outbox.now ups halted are need in
    let room : Fits c.args.outbox.now (flat_map (introduction c.deref.result.now c.deref-2.result.now (offers i.routes.records) (offers i.services.records)) c.deref-2.result.now) =
    rw (c.deref.ensures.0, c.deref-2.ensures.0) fits in
    let within : AllByRecursion (λ j. j < length c.deref.result.now) c.deref-2.result.now =
    rw (c.deref.ensures.0, c.deref-2.ensures.0, are) (numbers_below (length i.ports.items)) in
    let most = c.self.invariant.few in
    let few : length c.deref-2.result.now ≤ 32 = omega (arith, ap length c.deref-2.ensures.0, ap length are, length-numbers (length i.ports.items), most) in
    (grind arith, (grind arith, search (room, within, few)))

pub invariant_of-self : goal.invariant_of-self
invariant_of-self g c =
    let i = c.self.inside in
    let s = state_of i.ports.items i.running i.up.items i.seconds i.routes.records i.services.records in
    let ups = c.numbers_below-up.result.items in
    let halted : s.running ≡ false = ap (λ (v : State). v.running) c.self.view_is ∙ c.requires.stopped in
    let are : ups ≡ numbers (length s.ports) = c.numbers_below-up.ensures ∙ ap numbers c.len.ensures.value in
    next_router g.row.R g.row.S s i.routes.shares i.services.shares c.self.invariant (state_of s.ports true ups 0 s.routes s.services) Start tt tt
    (start_follows g.row.R g.row.S s ups halted are) i.routes.shares i.services.shares refl refl (lit< tt)

pub returns-clause-follows : goal.returns-clause-follows
returns-clause-follows g c =
    let i = c.self.inside in
    let s = state_of i.ports.items i.running i.up.items i.seconds i.routes.records i.services.records in
    let ups = c.numbers_below-up.result.items in
    let halted : s.running ≡ false = ap (λ (v : State). v.running) c.self.view_is ∙ c.requires.stopped in
    let are : ups ≡ numbers (length s.ports) = c.numbers_below-up.ensures ∙ ap numbers c.len.ensures.value in
    subst (λ (v : State). Follows g.row.R g.row.S v (state_of s.ports true ups 0 s.routes s.services) Start) c.self.view_is
    (start_follows g.row.R g.row.S s ups halted are)

pub returns-clause-sends : goal.returns-clause-sends
returns-clause-sends g c =
    let i = c.self.inside in
    let s = state_of i.ports.items i.running i.up.items i.seconds i.routes.records i.services.records in
    let ups = c.numbers_below-up.result.items in
    let halted : s.running ≡ false = ap (λ (v : State). v.running) c.self.view_is ∙ c.requires.stopped in
    let given : flat_map (introduction c.deref.result.now c.deref-2.result.now (offers i.routes.records) (offers i.services.records)) c.deref-2.result.now
    ≡ flat_map (introduction s.ports ups (offers s.routes) (offers s.services)) ups = rw (c.deref.ensures.0, c.deref-2.ensures.0) refl in
    let sent = start_sends g.row.R g.row.S s ups halted (stopped_routes g.row.R g.row.S s i.routes.shares i.services.shares c.self.invariant halted)
    (stopped_services g.row.R g.row.S s i.routes.shares i.services.shares c.self.invariant halted) in
    subst (λ (v : State). Appends c.args.outbox.now c.introduce_all.new.outbox (sends_between v (state_of s.ports true ups 0 s.routes s.services) Start)) c.self.view_is
    (subst (λ (ps : List Sent). Appends c.args.outbox.now c.introduce_all.new.outbox ps) (given ∙ sent) c.introduce_all.ensures)

pub len-requires : goal.len-requires
len-requires g c = grind arith

pub deref-requires : goal.deref-requires
deref-requires g c = grind arith

pub deref-requires-2 : goal.deref-requires-2
deref-requires-2 g c = grind arith

pub numbers_below-up-requires : goal.numbers_below-up-requires
numbers_below-up-requires g c = grind arith
