use Rattle.std.proofs.Common.{arith, ◌≡◌, ◌+◌, ◌<◌, ◌++◌, length, sym, ap, ap₂, ◌∙◌, subst, drop, is_err}
use Rattle.std.proofs.lemmas.Result.{err_from_is_err_and, IfOk-from_err}
use Rattle.ipx_internet.specs.Batches.{delivery_of}
use Rattle.ipx_router.specs.RouterOf.{HasPast}
use Rattle.ipx_internet.specs.Moment.{Moment, net_at}
use Rattle.ipx_internet.specs.Rounds.{IsDelivery}
use Rattle.ipx_internet.specs.inside.Simulated.{moment, net_among}
use Rattle.std.specs.List.{AllByRecursion}
use Rattle.ipx_internet.proofs.deliveries.FirstIsHandedOut.{first, some_router, it_is_there, it_is_bytes, left_coming, coming_front, coming_behind, settled_next, still_simulated, at_error, at_moment}
use Rattle.ipx_internet.proofs.internet.Internet.settle_one.Goals as goal
use Rattle.ipx_internet.proofs.weights.WeightOfHistories.{falls_at}

pub proves_sized-requires : goal.proves_sized-requires
proves_sized-requires g c = subst (λ xs. 0 < length xs) (sym c.deref.ensures.value)
    (some_router c.self.inside.routers.items _ c.self.invariant.coming (subst (λ (m : Moment). 0 < length m.queue) (sym c.self.view_is) c.requires))

pub happen-requires : goal.happen-requires
happen-requires g c =
    let coming = subst (λ ds. AllByRecursion (IsDelivery (net_among c.self.inside.routers.items)) ds) (sym c.turn-self-inside.ensures.queue)
    c.self.invariant.coming in (
      c.proves_sized.ensures,
      (
        c.self.invariant.sound,
        it_is_there g.row.R g.row.S c.self.inside.routers.items c.turn-self-inside.new.front.deliveries c.turn-self-inside.new.back.deliveries
            c.turn-self-inside.result
            (delivery_of c.get-coming.result) c.get-coming.ensures coming c.get-coming.result.bytes.now,
      ),
    )

pub invariant_of-self : goal.invariant_of-self
invariant_of-self g c =
    let coming = subst (λ ds. AllByRecursion (IsDelivery (net_among c.self.inside.routers.items)) ds) (sym c.turn-self-inside.ensures.queue) c.self.invariant.coming in
    let there = c.turn-self-inside.ensures.there in
    let front = drop c.turn-self-inside.result c.turn-self-inside.new.front.deliveries in
    let net = net_among c.self.inside.routers.items in
    still_simulated g.row.R g.row.S c.self.inside.routers.items c.happen.new.routers.items c.self.inside.stations.list c.turn-self-inside.new.front.deliveries
    c.turn-self-inside.new.back.deliveries c.happen.new.back.deliveries c.turn-self-inside.result c.happen.ensures.routers c.happen.ensures.net
    (coming_front net front c.turn-self-inside.new.back.deliveries coming)
    (c.happen.ensures.coming (coming_behind net front c.turn-self-inside.new.back.deliveries coming))
    (omega (arith, there))

pub returns-in_err-happen-clause-unchanged : goal.returns-in_err-happen-clause-unchanged
returns-in_err-happen-clause-unchanged g c =
    at_error c.from_residual.result
    (ap₂ (λ routers later. moment routers (drop c.turn-self-inside.result c.turn-self-inside.new.front.deliveries ++ later))
    c.in_err-happen.ensures.unchanged c.in_err-happen.ensures.kept
    ∙ ap (λ ds. moment c.self.inside.routers.items ds) c.turn-self-inside.ensures.queue ∙ c.self.view_is)

pub invariant_of-self-2 : goal.invariant_of-self-2
invariant_of-self-2 g c =
    let coming = subst (λ ds. AllByRecursion (IsDelivery (net_among c.self.inside.routers.items)) ds) (sym c.turn-self-inside.ensures.queue) c.self.invariant.coming in
    let there = c.turn-self-inside.ensures.there in
    let front = drop c.turn-self-inside.result c.turn-self-inside.new.front.deliveries in
    let net = net_among c.self.inside.routers.items in
    still_simulated g.row.R g.row.S c.self.inside.routers.items c.happen.new.routers.items c.self.inside.stations.list c.turn-self-inside.new.front.deliveries
    c.turn-self-inside.new.back.deliveries c.happen.new.back.deliveries (c.turn-self-inside.result + 1) c.happen.ensures.routers c.happen.ensures.net
    (left_coming g.row.R g.row.S c.self.inside.routers.items c.turn-self-inside.new.front.deliveries c.turn-self-inside.new.back.deliveries c.turn-self-inside.result
    (delivery_of c.get-coming.result) c.get-coming.ensures coming)
    (c.happen.ensures.coming (coming_behind net front c.turn-self-inside.new.back.deliveries coming))
    (omega (arith, there))

pub returns-clause-settled : goal.returns-clause-settled
returns-clause-settled g c =
    let routers = c.self.inside.routers.items in
    let left = drop c.turn-self-inside.result c.turn-self-inside.new.front.deliveries ++ c.turn-self-inside.new.back.deliveries in
    at_moment g.row.R g.row.S (moment routers left) c.args.self.now
    (moment c.happen.new.routers.items (drop (c.turn-self-inside.result + 1) c.turn-self-inside.new.front.deliveries ++ c.happen.new.back.deliveries))
    (ap (λ ds. moment routers ds) c.turn-self-inside.ensures.queue ∙ c.self.view_is)
    (settled_next g.row.R g.row.S routers c.turn-self-inside.new.front.deliveries c.turn-self-inside.new.back.deliveries c.turn-self-inside.result
    (delivery_of c.get-coming.result) c.get-coming.ensures
    c.happen.new.routers.items c.happen.new.back.deliveries c.in_ok-happen.ensures.stands)

pub returns-clause-lighter : goal.returns-clause-lighter
returns-clause-lighter g c =
    let routers = c.self.inside.routers.items in
    let net = net_among routers in
    let done = c.turn-self-inside.result in
    let front = c.turn-self-inside.new.front.deliveries in
    let back = c.turn-self-inside.new.back.deliveries in
    let d = delivery_of c.get-coming.result in
    let left = drop done front ++ back in
    let was : moment routers left ≡ c.args.self.now = ap (λ ds. moment routers ds) c.turn-self-inside.ensures.queue ∙ c.self.view_is in
    let coming = subst (λ ds. AllByRecursion (IsDelivery net) ds) (sym c.turn-self-inside.ensures.queue) c.self.invariant.coming in
    let place = it_is_there g.row.R g.row.S routers front back done d c.get-coming.ensures coming d.bytes in
    falls_at g.row.R g.row.S net
    (λ histories first queue are is. c.weighs.ensures.falls net g.row.R g.row.S histories first queue c.self.invariant.sound.internet c.self.invariant.sound.nodes are is)
    c.args.self.now (moment c.happen.new.routers.items (drop (done + 1) front ++ c.happen.new.back.deliveries))
    (ap net_at (sym was)) c.happen.ensures.net
    (subst (λ (m : Moment). AllByRecursion (HasPast g.row.R g.row.S) m.routers) was c.self.invariant.sound.pasts)
    (at_moment g.row.R g.row.S (moment routers left) c.args.self.now
    (moment c.happen.new.routers.items (drop (done + 1) front ++ c.happen.new.back.deliveries)) was
    (settled_next g.row.R g.row.S routers front back done d c.get-coming.ensures
    c.happen.new.routers.items c.happen.new.back.deliveries c.in_ok-happen.ensures.stands))
    d (drop (done + 1) front ++ back)
    (ap (λ (m : Moment). m.queue) (sym was) ∙ first g.row.R g.row.S routers front back done d c.get-coming.ensures)
    (record { place = place.1; bytes = it_is_bytes g.row.R g.row.S routers front back done d c.get-coming.ensures coming })

pub returns-in_err-happen-clause-net : goal.returns-in_err-happen-clause-net
returns-in_err-happen-clause-net g c = c.happen.ensures.net ∙ ap net_at c.self.view_is

pub returns-clause-net : goal.returns-clause-net
returns-clause-net g c = c.happen.ensures.net ∙ ap net_at c.self.view_is

pub returns-in_err-happen-clause-settled : goal.returns-in_err-happen-clause-settled
returns-in_err-happen-clause-settled g c =
    IfOk-from_err c.from_residual.result _ (ap (λ r. is_err r) (err_from_is_err_and c.from_residual.result c.from_residual.ensures.1).1)

pub returns-in_err-happen-clause-lighter : goal.returns-in_err-happen-clause-lighter
returns-in_err-happen-clause-lighter g c =
    IfOk-from_err c.from_residual.result _ (ap (λ r. is_err r) (err_from_is_err_and c.from_residual.result c.from_residual.ensures.1).1)

pub turn-self-inside-requires : goal.turn-self-inside-requires
turn-self-inside-requires g c = record {
  waits = subst (λ (m : Moment). 0 < length m.queue) (sym c.self.view_is) c.requires;
  within = c.self.invariant.within;
}
