use Rattle.std.proofs.Common.{refl, ap, [], ◌∷◌, ◌++◌, map, List}
use Rattle.ipx_table.specs.Facts.{Fact}
use Rattle.ipx_table.specs.Stands.{held}
use Rattle.ipx_router.specs.Facts.{route_facts, route_facts_of, routes_held, service_facts, service_facts_of, services_held}
use Rattle.ipx_router.specs.News.{same_route, same_service}
use Rattle.ipx_router.specs.Routes.{route_rules}
use Rattle.ipx_router.specs.Services.{service_rules}
use Rattle.ipx_router.specs.contracts.route_offer.RouteOfferPartialEq.TheImpl.{ghosts as equal_routes}
use Rattle.ipx_router.specs.contracts.service_offer.ServiceOfferPartialEq.TheImpl.{ghosts as equal_services}
use Rattle.ipx_router.specs.declared.route_offer.RouteOffer.{RouteOffer}
use Rattle.ipx_router.specs.declared.service_offer.ServiceOffer.{ServiceOffer}
use Rattle.ipx_router.proofs.tables.OffersOfAMessage.{facts_from-more}
use Rattle.ipx_router.proofs.tables.SharesThatFit.{shared_before}
use Rattle.ipx_router.proofs.tables.SharesHold.{admitted_by_any, kept}
use Rattle.ipx_router.proofs.laws.room_within_a_share.Goals as goal

pub returns-clause-routes : goal.returns-clause-routes
returns-clause-routes c ports capacity sharers history event first route rest shared is new =
    let rules = route_rules ports capacity in
    let facts = route_facts ports history ++ first in
    let shared_here = shared_before rules sharers (route_facts ports (history ++ event ∷ [])) (route_facts ports history) (route_facts_of ports history event) first route rest
    (facts_from-more (route_facts_of ports) [] history event) is shared in
    admitted_by_any rules equal_routes.eq same_route facts route new.up
    (c.room_within_a_share.ensures.records capacity (map (λ p. p.route_share) ports) sharers facts (held rules facts) route refl shared_here new.up new.new new.below)

pub returns-clause-services : goal.returns-clause-services
returns-clause-services c ports capacity sharers history event first service rest shared is new =
    let rules = service_rules ports capacity in
    let facts = service_facts ports history ++ first in
    let shared_here = shared_before rules sharers (service_facts ports (history ++ event ∷ [])) (service_facts ports history) (service_facts_of ports history event) first service rest
    (facts_from-more (service_facts_of ports) [] history event) is shared in
    admitted_by_any rules equal_services.eq same_service facts service new.up
    (c.room_within_a_share-2.ensures.records capacity (map (λ p. p.service_share) ports) sharers facts (held rules facts) service refl shared_here new.up new.new new.below)

pub returns-clause-routes_kept : goal.returns-clause-routes_kept
returns-clause-routes_kept c ports capacity sharers history event shared =
    let rules = route_rules ports capacity in
    kept rules same_route (route_facts ports history) (route_facts_of ports history event) (routes_held ports capacity (history ++ event ∷ []))
    (ap (λ (fs : List (Fact RouteOffer)). held rules fs) (facts_from-more (route_facts_of ports) [] history event))
    (λ first route rest is new. returns-clause-routes c ports capacity sharers history event first route rest shared is new)
    (λ all place h. c.standing_records.ensures.listed capacity (map (λ p. p.route_share) ports) all (routes_held ports capacity (history ++ event ∷ [])) place h)

pub returns-clause-services_kept : goal.returns-clause-services_kept
returns-clause-services_kept c ports capacity sharers history event shared =
    let rules = service_rules ports capacity in
    kept rules same_service (service_facts ports history) (service_facts_of ports history event) (services_held ports capacity (history ++ event ∷ []))
    (ap (λ (fs : List (Fact ServiceOffer)). held rules fs) (facts_from-more (service_facts_of ports) [] history event))
    (λ first service rest is new. returns-clause-services c ports capacity sharers history event first service rest shared is new)
    (λ all place h. c.standing_records-2.ensures.listed capacity (map (λ p. p.service_share) ports) all (services_held ports capacity (history ++ event ∷ [])) place h)
