use Rattle.std.proofs.Common.{◌≡◌, ◌≢◌, refl, false, [], ◌∷◌}
use Rattle.std.specs.List.{AllByRecursion}
use Rattle.ipx_wire.specs.Crossed.{is_among}
use Rattle.ipx_internet.specs.Ticks.{ticked}
use Rattle.ipx_internet.proofs.lists.EachElement.{all_then}
use Rattle.ipx_laws.specs.Apart.{IsRealApart}
use Rattle.ipx_laws.specs.Real.{IsReal, led_over}
use Rattle.ipx_laws.specs.Tables.{routes_of}
use Rattle.ipx_laws.specs.Ups.{ups}
use Rattle.ipx_laws.proofs.laws.real.Goals as goal
use Rattle.ipx_laws.proofs.ticks.AfterRest.{beside_after}

-- with an empty list
pub returns-clause-routes : goal.returns-clause-routes
returns-clause-routes c net most_routes most_services run first ticks router is are calm long within =
    all_then (IsRealApart net (ups net run.histories) [] router) (IsReal net (ups net run.histories) router) (λ r real. real refl)
    (routes_of net most_routes (ticked net most_routes most_services run (first ∷ ticks)).histories router)
    (c.real_apart.ensures.routes net most_routes most_services [] run first ticks router is are
    (beside_after net most_routes most_services [] run first ticks calm) long within)

pub returns-clause-down : goal.returns-clause-down
returns-clause-down c net most_routes most_services run first ticks router place is are calm long within down =
    all_then
    (λ r. is_among r.network [] ≡ false
    → (real : IsReal net (ups net run.histories) router r) × AllByRecursion (λ p. p ≢ place) (led_over net (ups net run.histories) router r real))
    (λ r. (real : IsReal net (ups net run.histories) router r) × AllByRecursion (λ p. p ≢ place) (led_over net (ups net run.histories) router r real))
    (λ r real. real refl)
    (routes_of net most_routes (ticked net most_routes most_services run (first ∷ ticks)).histories router)
    (c.real_apart.ensures.down net most_routes most_services [] run first ticks router place is are
    (beside_after net most_routes most_services [] run first ticks calm) long within down)

pub returns-clause-own_ports : goal.returns-clause-own_ports
returns-clause-own_ports c net most_routes most_services run first ticks router is are calm within =
    c.real_apart.ensures.own_ports net most_routes most_services [] run first ticks router is are (beside_after net most_routes most_services [] run first ticks calm) within
