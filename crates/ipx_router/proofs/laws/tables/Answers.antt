use Rattle.std.proofs.Common.{refl, map}
use Rattle.ipx_router.specs.Facts.{route_facts, routes_held, service_facts, services_held, offers}
use Rattle.ipx_router.specs.Routes.{route_rules}
use Rattle.ipx_router.specs.Services.{service_rules}
use Rattle.ipx_router.proofs.tables.HeldRises.{offers_ascend, networks_rise}
use Rattle.ipx_router.proofs.tables.HeldWasOffered.{tables}
use Rattle.ipx_router.proofs.tables.HeldCameByPortsUp.{held_routes_up, held_services_up}
use Rattle.ipx_router.proofs.laws.tables.Goals as goal

pub returns-clause-of_a_table : goal.returns-clause-of_a_table
returns-clause-of_a_table c = tables

pub returns-clause-routes_up : goal.returns-clause-routes_up
returns-clause-routes_up c = held_routes_up

pub returns-clause-services_up : goal.returns-clause-services_up
returns-clause-services_up c = held_services_up

pub returns-clause-routes_rise : goal.returns-clause-routes_rise
returns-clause-routes_rise c ports capacity history =
    let records = routes_held ports capacity history in
    networks_rise (offers records)
    (offers_ascend (route_rules ports capacity).by_key records
    (c.standing_records.ensures.ascending capacity (map (λ p. p.route_share) ports) (route_facts ports history) records refl))

pub returns-clause-services_rise : goal.returns-clause-services_rise
returns-clause-services_rise c ports capacity history =
    let records = services_held ports capacity history in
    offers_ascend (service_rules ports capacity).by_key records
    (c.standing_records-2.ensures.ascending capacity (map (λ p. p.service_share) ports) (service_facts ports history) records refl)
