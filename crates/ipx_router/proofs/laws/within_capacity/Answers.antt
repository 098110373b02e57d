use Rattle.std.proofs.Common.{sym, subst, ℕ, ◌≤◌, map}
use Rattle.ipx_table.specs.Accepted.{marked}
use Rattle.ipx_table.specs.Alive.{alive}
use Rattle.ipx_router.specs.Facts.{route_facts, service_facts}
use Rattle.ipx_router.specs.Routes.{route_rules}
use Rattle.ipx_router.specs.Services.{service_rules}
use Rattle.ipx_router.proofs.tables.SharesHold.{length-in_order}
use Rattle.ipx_router.proofs.laws.within_capacity.Goals as goal

pub returns-clause-routes : goal.returns-clause-routes
returns-clause-routes c ports capacity history =
    let rules = route_rules ports capacity in
    let facts = route_facts ports history in
    subst (λ (n : ℕ). n ≤ capacity) (sym (length-in_order rules.by_key (alive rules (marked rules facts))))
    (c.alive_offers.ensures.few capacity (map (λ p. p.route_share) ports) facts)

pub returns-clause-services : goal.returns-clause-services
returns-clause-services c ports capacity history =
    let rules = service_rules ports capacity in
    let facts = service_facts ports history in
    subst (λ (n : ℕ). n ≤ capacity) (sym (length-in_order rules.by_key (alive rules (marked rules facts))))
    (c.alive_offers-2.ensures.few capacity (map (λ p. p.service_share) ports) facts)
