use Rattle.std.proofs.Common.{length}
use Rattle.ipx_router.specs.Port.{numbers}
use Rattle.ipx_router.proofs.tables.SharesThatFit.{routes_shared, services_shared, came_on_one, all_shares}
use Rattle.ipx_router.proofs.laws.shared_tables.Goals as goal

pub returns-clause-routes : goal.returns-clause-routes
returns-clause-routes c = routes_shared

pub returns-clause-services : goal.returns-clause-services
returns-clause-services c = services_shared

pub returns-clause-all_routes : goal.returns-clause-all_routes
returns-clause-all_routes c ports capacity history on fits =
    routes_shared ports capacity (numbers (length ports)) history (came_on_one ports history on) (all_shares (λ p. p.route_share) ports capacity fits)

pub returns-clause-all_services : goal.returns-clause-all_services
returns-clause-all_services c ports capacity history on fits =
    services_shared ports capacity (numbers (length ports)) history (came_on_one ports history on) (all_shares (λ p. p.service_share) ports capacity fits)
