use Rattle.std.proofs.Common.{◌≡◌, refl, ◌∙◌, ◌↔◌, sym, ap, subst, arith, true, false, List}
use Rattle.std.proofs.lemmas.Bool.{both_ways}
use Rattle.ipx_router.specs.Stands.{State}
use Rattle.ipx_internet.specs.Internet.{IsPlace}
use Rattle.ipx_internet.specs.Moment.{Moment}
use Rattle.ipx_internet.specs.inside.Simulated.{net_among}
use Rattle.ipx_internet.proofs.internet.Internet.has_place.Goals as goal
use Rattle.ipx_internet.proofs.trees.ListedOfStations.{has_none}

pub proves_sized-requires : goal.proves_sized-requires
proves_sized-requires g c =
    let seen = c.deref.ensures.len in
    let counted = c.len.ensures in
    let below = c.if-router-len.false in
    omega (arith, seen, counted, below)

pub is_place-requires : goal.is_place-requires
is_place-requires g c = c.proves_sized.ensures

pub returns : goal.returns
returns g c =
    let same : c.deref-2.result.now ≡ c.args.self.now.routers = c.deref-2.ensures.value ∙ ap (λ (m : Moment). m.routers) c.self.view_is in
    subst (λ (ss : List State). (c.is_place.result ≡ true ↔ IsPlace (net_among ss) (record { router = c.args.router; port = c.args.port }))) same c.is_place.ensures

pub returns-then-router-len : goal.returns-then-router-len
returns-then-router-len g c =
    let all = c.self.inside.routers.ok.0 in
    let counted = c.len.ensures in
    let past = c.if-router-len.true in
    let same : c.self.inside.routers.items ≡ c.args.self.now.routers = ap (λ (m : Moment). m.routers) c.self.view_is in (
      λ on. absurd (both_ways false refl on),
      λ place. absurd (has_none c.self.inside.routers.items c.args.router c.args.port (omega (arith, all, counted, past))
          (subst (λ (ss : List State). IsPlace (net_among ss) (record { router = c.args.router; port = c.args.port })) (sym same) place)),
    )
