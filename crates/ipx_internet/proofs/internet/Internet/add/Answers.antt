use Rattle.std.proofs.Common.{◌≡◌, sym, ap, ◌∙◌, drop, ◌++◌, ◌∷◌, [], subst, List, length}
use Rattle.std.proofs.lemmas.List.{length-map}
use Rattle.ipx_router.specs.Stands.{State}
use Rattle.ipx_internet.specs.Moment.{Moment, SharesNode, net_at}
use Rattle.ipx_internet.specs.Refused.{IsNotAdded}
use Rattle.ipx_internet.specs.inside.Simulated.{moment, net_among, IsSimulated}
use Rattle.ipx_internet.specs.inside.Stations.{AreOf}
use Rattle.ipx_internet.specs.declared.stations.Station.{Station}
use Rattle.ipx_internet.proofs.internet.Internet.add.Goals as goal
use Rattle.ipx_internet.proofs.places.InternetOfOneMore.{wider_simulated}

pub returns-in-Err-clause-fault : goal.returns-in-Err-clause-fault
returns-in-Err-clause-fault g c =
    subst (λ (m : Moment). IsNotAdded (net_at m) c.args.router.ports c.in-Err.fault) c.self.view_is c.in-Err.ensures.fault

pub invariant_of-self-2 : goal.invariant_of-self-2
invariant_of-self-2 g c =
    let routers = c.self.inside.routers.items in
    let net = net_among routers in
    let number : c.len-number.result ≡ length routers =
    c.len-number.ensures ∙ c.make_place.new.routers.ok.0 ∙ ap (λ (rs : List State). length rs) c.make_place.ensures.routers in
    subst (λ (rs : List State). IsSimulated g.row.R g.row.S rs c.add.new.self.list c.self.inside.front.deliveries c.self.inside.done c.self.inside.back.deliveries)
    (sym (c.push_reserved.ensures.items ∙ ap (λ (rs : List State). rs ++ c.args.router ∷ []) c.make_place.ensures.routers))
    (wider_simulated g.row.R g.row.S routers c.args.router c.self.inside.stations.list c.add.new.self.list c.self.inside.front.deliveries c.self.inside.done
    c.self.inside.back.deliveries c.self.invariant c.in_default.ensures.fresh c.is_router.ensures.are c.is_router.ensures.apart c.is_router.ensures.past
    (c.add.ensures net (subst (λ (l : List Station). AreOf net l) (sym c.make_place.ensures.list) c.self.invariant.sound.stationed) (length-map routers (λ (s : State). s.ports) ∙ sym number)))

pub returns-clause-fresh : goal.returns-clause-fresh
returns-clause-fresh g c =
    subst (λ (m : Moment). SharesNode (net_at m) c.args.router.ports → ⊥) c.self.view_is c.in_default.ensures.fresh

pub make_place-requires : goal.make_place-requires
make_place-requires g c = (first_of (assumption c.well_formed, search c.well_formed), c.self.invariant.sound.stationed)

pub invariant_of-self : goal.invariant_of-self
invariant_of-self g c =
    subst (λ (rs : List State). IsSimulated g.row.R g.row.S rs c.make_place.new.stations.list c.self.inside.front.deliveries c.self.inside.done c.self.inside.back.deliveries)
    (sym c.in-Err.ensures.routers)
    (subst (λ (l : List Station). IsSimulated g.row.R g.row.S c.self.inside.routers.items l c.self.inside.front.deliveries c.self.inside.done c.self.inside.back.deliveries)
    (sym c.in-Err.ensures.list) c.self.invariant)

pub add-requires : goal.add-requires
add-requires g c = (first_of (assumption c.well_formed, search c.well_formed), c.in_default.ensures.places)

pub is_router-requires : goal.is_router-requires
is_router-requires g c = first_of (assumption c.well_formed, search c.well_formed)

pub push_reserved-requires : goal.push_reserved-requires
push_reserved-requires g c = c.in_default.ensures.room

pub returns-in-Err-clause-unchanged : goal.returns-in-Err-clause-unchanged
returns-in-Err-clause-unchanged g c =
    ap (λ (rs : List State). moment rs (drop c.self.inside.done c.self.inside.front.deliveries ++ c.self.inside.back.deliveries)) c.in-Err.ensures.routers
    ∙ c.self.view_is

pub returns-in-Err-clause-queue : goal.returns-in-Err-clause-queue
returns-in-Err-clause-queue g c = ap (λ (m : Moment). m.queue) c.self.view_is

pub returns-clause-number : goal.returns-clause-number
returns-clause-number g c =
    c.len-number.ensures ∙ c.make_place.new.routers.ok.0
    ∙ ap (λ (rs : List State). length rs) (c.make_place.ensures.routers ∙ ap (λ (m : Moment). m.routers) c.self.view_is)

pub returns-clause-last : goal.returns-clause-last
returns-clause-last g c =
    c.push_reserved.ensures.items
    ∙ ap (λ (rs : List State). rs ++ c.args.router ∷ []) (c.make_place.ensures.routers ∙ ap (λ (m : Moment). m.routers) c.self.view_is)

pub returns-clause-queue : goal.returns-clause-queue
returns-clause-queue g c = ap (λ (m : Moment). m.queue) c.self.view_is
