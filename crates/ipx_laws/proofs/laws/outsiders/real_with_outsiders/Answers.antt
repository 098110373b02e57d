use Rattle.std.proofs.Common.{◌≡◌, ◌≢◌, ap, ◌∙◌, subst, ◌<◌, ◌∷◌, false, arith}
use Rattle.ipx_wire.specs.Crossed.{is_among}
use Rattle.ipx_wire.specs.declared.network.Network.{Network}
use Rattle.ipx_internet.specs.Ticks.{ticked}
use Rattle.ipx_internet.proofs.lists.EachElement.{all_then}
use Rattle.ipx_router.specs.Numbers.{unreachable}
use Rattle.ipx_laws.specs.Apart.{IsRealApart}
use Rattle.ipx_laws.specs.Least.{Way, IsWay}
use Rattle.ipx_laws.specs.Outsiders.{ups_with}
use Rattle.ipx_laws.specs.Tables.{routes_of}
use Rattle.ipx_laws.proofs.laws.outsiders.real_with_outsiders.Goals as goal
use Rattle.ipx_laws.proofs.outsiders.PortsOfOutsiders.{with_within}
use Rattle.ipx_laws.proofs.outsiders.RoutesHaveWays.{has_way}
use Rattle.ipx_laws.proofs.outsiders.TicksWithOutsiders.{all_real}

pub returns-clause-routes : goal.returns-clause-routes
returns-clause-routes c net most_routes most_services ours foreign run first ticks router is are stopped (rest, leaves, hosts) say long within mine =
    all_real net c.layouts.ensures is most_routes most_services ours foreign run first ticks are stopped rest leaves hosts router within mine say long

pub returns-clause-ways : goal.returns-clause-ways
returns-clause-ways c net most_routes most_services ours foreign run first ticks router is are stopped (rest, leaves, hosts) say long within mine =
    let up = ups_with net ours run.histories in
    all_then (IsRealApart net up foreign router)
    (λ r. is_among r.network foreign ≡ false → (way : Way) × IsWay net up r.network router way × (way.hops ≡ r.hops) × (r.hops < unreachable))
    (λ r real off. let has = has_way net up (with_within net ours run.histories) (real off) in (has.way, has.is_way, has.hops, has.near))
    (routes_of net most_routes (ticked net most_routes most_services run (first ∷ ticks)).histories router)
    (all_real net c.layouts.ensures is most_routes most_services ours foreign run first ticks are stopped rest leaves hosts router within mine say long)

pub returns-clause-none : goal.returns-clause-none
returns-clause-none c net most_routes most_services ours foreign run first ticks router network is are stopped (rest, leaves, hosts) say long within mine off no_way =
    let up = ups_with net ours run.histories in
    all_then (IsRealApart net up foreign router) (λ r. r.network ≢ network)
    (λ r real named.
    let has = has_way net up (with_within net ours run.histories) (real (ap (λ (n : Network). is_among n foreign) named ∙ off)) in
    let hops = has.hops in
    let near = has.near in
    no_way has.way (subst (λ (n : Network). IsWay net up n router has.way) named has.is_way) (omega (arith, hops, near)))
    (routes_of net most_routes (ticked net most_routes most_services run (first ∷ ticks)).histories router)
    (all_real net c.layouts.ensures is most_routes most_services ours foreign run first ticks are stopped rest leaves hosts router within mine say long)
