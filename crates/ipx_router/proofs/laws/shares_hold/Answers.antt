use Rattle.std.proofs.Common.{refl, subst, ℕ, ◌≤◌, map}
use Rattle.ipx_table.specs.Reading.{count_by}
use Rattle.ipx_router.specs.Facts.{route_facts, routes_held, service_facts, services_held}
use Rattle.ipx_router.proofs.tables.SharesHold.{share_at}
use Rattle.ipx_router.proofs.laws.shares_hold.Goals as goal

pub returns-clause-routes : goal.returns-clause-routes
returns-clause-routes c ports capacity history = λ number within.
    subst (λ (n : ℕ). count_by (λ r. r.port) number (routes_held ports capacity history) ≤ n) (share_at (λ p. p.route_share) capacity ports number within)
    (c.shares_hold.ensures.records capacity (map (λ p. p.route_share) ports) (route_facts ports history) (routes_held ports capacity history) number refl)

pub returns-clause-services : goal.returns-clause-services
returns-clause-services c ports capacity history = λ number within.
    subst (λ (n : ℕ). count_by (λ s. s.port) number (services_held ports capacity history) ≤ n) (share_at (λ p. p.service_share) capacity ports number within)
    (c.shares_hold-2.ensures.records capacity (map (λ p. p.service_share) ports) (service_facts ports history) (services_held ports capacity history) number refl)
