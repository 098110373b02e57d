use Rattle.std.proofs.Common.{◌≡◌, ◌<◌, sym, ap, ap₂, ◌∙◌, arith, subst, length, List, [], drop, vec_len, ◌++◌}
use Rattle.std.proofs.lemmas.Bool.{both_ways, eqb-false, eqb-true}
use Rattle.ipx_router.specs.Happened.{happened}
use Rattle.ipx_router.specs.Outcomes.{outcome}
use Rattle.ipx_router.specs.Stands.{State}
use Rattle.ipx_internet.specs.Internet.{ports_of}
use Rattle.ipx_internet.specs.Moment.{Moment, IsThere, StandsFor, net_at}
use Rattle.ipx_internet.specs.Queue.{Delivery, history_of}
use Rattle.ipx_internet.specs.inside.Simulated.{moment, net_among}
use Rattle.ipx_internet.proofs.deliveries.AllThatWaitsStands.{still_coming, stands_then}
use Rattle.ipx_internet.proofs.internet.Internet.event.Goals as goal

pub happen-requires : goal.happen-requires
happen-requires g c = (
  c.proves_sized.ensures,
  (
    c.self.invariant.sound,
    subst (λ (rs : List State). IsThere (moment rs []) c.args.router (happened c.args.event)) c.deref-2.ensures.value (c.is_there.ensures.0 c.if-not-is_there.false),
  ),
)

pub invariant_of-self-2 : goal.invariant_of-self-2
invariant_of-self-2 g c = record {
  sound = c.in-Ok.ensures.routers;
  coming = still_coming (net_among c.self.inside.routers.items) (net_among c.happen.new.routers.items) (drop c.self.inside.done c.self.inside.front.deliveries)
      c.self.inside.back.deliveries c.happen.new.back.deliveries c.in-Ok.ensures.net c.self.invariant.coming c.in-Ok.ensures.coming;
  within = c.self.invariant.within;
}

pub returns-clause-stands : goal.returns-clause-stands
returns-clause-stands g c =
    stands_then g.row.R g.row.S c.self.inside.routers.items c.happen.new.routers.items (drop c.self.inside.done c.self.inside.front.deliveries)
    c.self.inside.back.deliveries c.happen.new.back.deliveries c.args.self.now c.args.router (happened c.args.event) c.self.view_is c.in-Ok.ensures.stands

pub returns-clause-outcome : goal.returns-clause-outcome
returns-clause-outcome g c q stands =
    subst (λ (m : Moment). c.in-Ok.outcome ≡ outcome (ports_of (net_at m) c.args.router) g.row.R (history_of q.histories c.args.router) (happened c.args.event))
    c.self.view_is
    (c.in-Ok.ensures.outcome (drop c.self.inside.done c.self.inside.front.deliveries ++ c.self.inside.back.deliveries) q
    (subst (λ (m : Moment). StandsFor g.row.R g.row.S m q) (sym c.self.view_is) stands))

pub returns-clause-there : goal.returns-clause-there
returns-clause-there g c =
    subst (λ (m : Moment). IsThere m c.args.router (happened c.args.event)) c.self.view_is
    (subst (λ (rs : List State). IsThere (moment rs []) c.args.router (happened c.args.event)) c.deref-2.ensures.value
    (c.is_there.ensures.0 c.if-not-is_there.false))

pub is_there-requires : goal.is_there-requires
is_there-requires g c = first_of (assumption c.well_formed, search c.well_formed)

pub returns-then-is_empty-clause-refused : goal.returns-then-is_empty-clause-refused
returns-then-is_empty-clause-refused g c =
    λ there. let within = subst (λ (m : Moment). c.args.router < length m.routers) (sym c.self.view_is) there.0 in
    let all = c.self.inside.routers.ok.0 in
    let none = eqb-true (vec_len c.self.inside.routers) 0 (sym c.is_empty.ensures ∙ c.if-is_empty.true) in
    omega (arith, within, all, none)

pub returns-then-not-is_there-clause-refused : goal.returns-then-not-is_there-clause-refused
returns-then-not-is_there-clause-refused g c =
    λ there. both_ways c.is_there.result c.if-not-is_there.true
    (c.is_there.ensures.1 (subst (λ (rs : List State). IsThere (moment rs []) c.args.router (happened c.args.event)) (sym c.deref-2.ensures.value)
    (subst (λ (m : Moment). IsThere m c.args.router (happened c.args.event)) (sym c.self.view_is) there)))

pub invariant_of-self : goal.invariant_of-self
invariant_of-self g c = record {
  sound = c.in-Err.ensures.routers;
  coming = still_coming (net_among c.self.inside.routers.items) (net_among c.happen.new.routers.items) (drop c.self.inside.done c.self.inside.front.deliveries)
      c.self.inside.back.deliveries c.happen.new.back.deliveries c.in-Err.ensures.net c.self.invariant.coming c.in-Err.ensures.coming;
  within = c.self.invariant.within;
}

pub returns-in-Err-clause-net : goal.returns-in-Err-clause-net
returns-in-Err-clause-net g c =
    ap net_at (ap₂ (λ (rs : List State) (ds : List Delivery). moment rs (drop c.self.inside.done c.self.inside.front.deliveries ++ ds))
    c.in-Err.ensures.unchanged c.in-Err.ensures.kept ∙ c.self.view_is)

pub returns-in-Err-clause-unchanged : goal.returns-in-Err-clause-unchanged
returns-in-Err-clause-unchanged g c =
    ap₂ (λ (rs : List State) (ds : List Delivery). moment rs (drop c.self.inside.done c.self.inside.front.deliveries ++ ds))
    c.in-Err.ensures.unchanged c.in-Err.ensures.kept ∙ c.self.view_is

pub returns-in-Err-clause-refused : goal.returns-in-Err-clause-refused
returns-in-Err-clause-refused g c =
    subst (λ (m : Moment). IsThere m c.args.router (happened c.args.event)) c.self.view_is
    (subst (λ (rs : List State). IsThere (moment rs []) c.args.router (happened c.args.event)) c.deref-2.ensures.value
    (c.is_there.ensures.0 c.if-not-is_there.false))

pub returns-clause-net : goal.returns-clause-net
returns-clause-net g c = c.in-Ok.ensures.net ∙ ap net_at c.self.view_is

pub proves_sized-requires : goal.proves_sized-requires
proves_sized-requires g c =
    let some = eqb-false (vec_len c.self.inside.routers) 0 (sym c.is_empty.ensures ∙ c.if-is_empty.false) in
    let size = c.deref.ensures.len in
    omega (arith, some, size)
