use Rattle.std.proofs.Common.{◌≡◌, ◌∙◌, sym, subst, ℕ, List, [], ◌∷◌, ◌++◌, false}
use Rattle.ipx_table.specs.Facts.{Offered}
use Rattle.ipx_table.specs.Reading.{rules_of}
use Rattle.ipx_table.specs.Stands.{Stands}
use Rattle.ipx_router.specs.Port.{takes_no_route}
use Rattle.ipx_router.specs.Routes.{route_reading, network_order, route_rules}
use Rattle.ipx_router.specs.declared.route_offer.RouteOffer.{RouteOffer}
use Rattle.ipx_router.proofs.changes.EqualOffersAreOne.{route_exact}
use Rattle.ipx_router.proofs.learning.offering.offer_route.Goals as goal

pub returns-clause-stands : goal.returns-clause-stands
returns-clause-stands g c = λ facts stands.
    let taken : takes_no_route c.args.ports.now c.args.entry.network ≡ false = sym c.takes_no_route.ensures ∙ c.if-takes_no_route.false in
    let step = subst (λ (shares : List ℕ). Stands (rules_of route_reading network_order g.row.R shares) c.args.table.now.records facts
    → Stands (rules_of route_reading network_order g.row.R shares) c.take.new.table.records (facts ++ Offered c.route_offer.result ∷ []))
    c.requires.shares (c.take.ensures.stands facts) in
    rw taken (subst (λ (offer : RouteOffer). Stands (route_rules c.args.ports.now g.row.R) c.take.new.table.records (facts ++ Offered offer ∷ []))
    c.route_offer.ensures (step stands))

pub returns-clause-touches : goal.returns-clause-touches
returns-clause-touches g c = λ before old. c.take.ensures.touches route_exact before old
