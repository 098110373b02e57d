use Rattle.std.proofs.Common.{◌≡◌, ◌<◌, ◌≤◌, refl, sym, ap, ◌∙◌, subst, nat_lt, Bool, true, false, length, arith}
use Rattle.std.specs.List.{AllByRecursion, flat_map}
use Rattle.ipx_router.specs.Facts.{offers}
use Rattle.ipx_router.specs.inside.Following.{Follows}
use Rattle.ipx_router.specs.History.{PortUp}
use Rattle.ipx_router.specs.Needs.{HasRoomFor}
use Rattle.ipx_router.specs.Outbox.{Fits}
use Rattle.ipx_router.specs.Port.{is_up}
use Rattle.ipx_router.specs.Sends.{port_up_on}
use Rattle.ipx_router.specs.Sorted.{put}
use Rattle.ipx_router.specs.Stands.{State}
use Rattle.ipx_router.proofs.bounds.RoomIsEnough.{next_router}
use Rattle.ipx_router.proofs.histories.RouterOneEventMore.{up_follows, up_room, ups_within, room_for_one, within_put, length-put_number}
use Rattle.ipx_router.proofs.histories.StateAfterEachEvent.{state_of}
use Rattle.ipx_router.proofs.router.Router.bring_up.Goals as goal

pub with_number-self-inside-requires : goal.with_number-self-inside-requires
with_number-self-inside-requires g c =
    let i = c.self.inside in
    let s = state_of i.ports.items i.running i.up.items i.seconds i.routes.records i.services.records in
    let n = c.args.port in
    let runs : s.running ≡ true = ap (λ (v : State). v.running) c.self.view_is ∙ c.requires.runs in
    let down : is_up s.up n ≡ false = ap (λ (v : State). is_up v.up n) c.self.view_is ∙ c.requires.down in
    let within : n < length s.ports = rw (ap (λ (v : State). length v.ports) c.self.view_is) c.requires.port in
    let room : length s.up < 32 = room_for_one g.row.R g.row.S s i.routes.shares i.services.shares c.self.invariant n within runs down in
    record { fits = rw c.deref.ensures.0 room }

pub send_port_up-requires : goal.send_port_up-requires
send_port_up-requires g c =
    let i = c.self.inside in
    let s = state_of i.ports.items i.running i.up.items i.seconds i.routes.records i.services.records in
    let n = c.args.port in
    let runs : s.running ≡ true = ap (λ (v : State). v.running) c.self.view_is ∙ c.requires.runs in
    let down : is_up s.up n ≡ false = ap (λ (v : State). is_up v.up n) c.self.view_is ∙ c.requires.down in
    let within : n < length s.ports = rw (ap (λ (v : State). length v.ports) c.self.view_is) c.requires.port in
    let ups = c.with_number-self-inside.result.items in
    let are : ups ≡ put nat_lt n s.up = c.with_number-self-inside.ensures ∙ ap (put nat_lt n) c.deref.ensures.0 in
    let need : HasRoomFor s (PortUp n) c.args.outbox.now =
    subst (λ (v : State). HasRoomFor v (PortUp n) c.args.outbox.now) (sym c.self.view_is) c.requires.room in
    let fits = up_room g.row.R g.row.S s i.routes.shares i.services.shares c.self.invariant (record { few = c.bounds.ensures.few; short = c.bounds.ensures.short })
    c.args.outbox.now n ups within runs down are need in
    let room : Fits c.args.outbox.now
    (flat_map (port_up_on c.deref-2.result.now (record { up = c.deref-3.result.now; routes = offers i.routes.records; services = offers i.services.records }) n) c.deref-3.result.now) =
    rw (c.deref-2.ensures.0, c.deref-3.ensures.0) fits in
    let there : n < length c.deref-2.result.now = rw c.deref-2.ensures.0 within in
    let all : AllByRecursion (λ j. j < length c.deref-2.result.now) c.deref-3.result.now =
    rw (c.deref-2.ensures.0, c.deref-3.ensures.0, are)
    (within_put (length s.ports) n s.up within (ups_within g.row.R g.row.S s i.routes.shares i.services.shares c.self.invariant)) in
    let least : length s.up < 32 = room_for_one g.row.R g.row.S s i.routes.shares i.services.shares c.self.invariant n within runs down in
    let few : length c.deref-3.result.now ≤ 32 = omega (arith, ap length c.deref-3.ensures.0, ap length are, length-put_number n s.up, least) in
    (grind arith, (grind arith, search (room, there, all, few)))

pub invariant_of-self : goal.invariant_of-self
invariant_of-self g c =
    let i = c.self.inside in
    let s = state_of i.ports.items i.running i.up.items i.seconds i.routes.records i.services.records in
    let n = c.args.port in
    let runs : s.running ≡ true = ap (λ (v : State). v.running) c.self.view_is ∙ c.requires.runs in
    let down : is_up s.up n ≡ false = ap (λ (v : State). is_up v.up n) c.self.view_is ∙ c.requires.down in
    let within : n < length s.ports = rw (ap (λ (v : State). length v.ports) c.self.view_is) c.requires.port in
    let ups = c.with_number-self-inside.result.items in
    let are : ups ≡ put nat_lt n s.up = c.with_number-self-inside.ensures ∙ ap (put nat_lt n) c.deref.ensures.0 in
    let step : Follows g.row.R g.row.S s (state_of s.ports s.running ups s.seconds s.routes s.services) (PortUp n) =
    subst (λ (r : Bool). Follows g.row.R g.row.S s (state_of s.ports r ups s.seconds s.routes s.services) (PortUp n)) (sym runs)
    (up_follows g.row.R g.row.S s n ups runs down are) in
    next_router g.row.R g.row.S s i.routes.shares i.services.shares c.self.invariant
    (state_of s.ports s.running ups s.seconds s.routes s.services) (PortUp n) within tt step i.routes.shares i.services.shares refl refl c.self.invariant.minute

pub returns-clause-follows : goal.returns-clause-follows
returns-clause-follows g c =
    let i = c.self.inside in
    let s = state_of i.ports.items i.running i.up.items i.seconds i.routes.records i.services.records in
    let n = c.args.port in
    let runs : s.running ≡ true = ap (λ (v : State). v.running) c.self.view_is ∙ c.requires.runs in
    let down : is_up s.up n ≡ false = ap (λ (v : State). is_up v.up n) c.self.view_is ∙ c.requires.down in
    let within : n < length s.ports = rw (ap (λ (v : State). length v.ports) c.self.view_is) c.requires.port in
    let ups = c.with_number-self-inside.result.items in
    let are : ups ≡ put nat_lt n s.up = c.with_number-self-inside.ensures ∙ ap (put nat_lt n) c.deref.ensures.0 in
    let step : Follows g.row.R g.row.S s (state_of s.ports s.running ups s.seconds s.routes s.services) (PortUp n) =
    subst (λ (r : Bool). Follows g.row.R g.row.S s (state_of s.ports r ups s.seconds s.routes s.services) (PortUp n)) (sym runs)
    (up_follows g.row.R g.row.S s n ups runs down are) in
    subst (λ (v : State). Follows g.row.R g.row.S v (state_of s.ports s.running ups s.seconds s.routes s.services) (PortUp n)) c.self.view_is step

pub deref-requires : goal.deref-requires
deref-requires g c = grind arith

pub deref-requires-2 : goal.deref-requires-2
deref-requires-2 g c = grind arith
