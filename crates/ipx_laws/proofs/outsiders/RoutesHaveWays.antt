-- A route of a real way has as many hops as a way there, and fewer than 16.
use Rattle.std.proofs.Common.{◌≡◌, sym, ap, subst, ℕ, ◌<◌, List, length, arith}
use Rattle.std.specs.List.{AllByRecursion}
use Rattle.ipx_wire.specs.declared.network.Network.{Network}
use Rattle.ipx_wire.specs.declared.rip.RipEntry.{RipEntry}
use Rattle.ipx_router.specs.Numbers.{unreachable}
use Rattle.ipx_router.specs.Port.{port_at}
use Rattle.ipx_router.specs.declared.route_offer.RouteOffer.{RouteOffer}
use Rattle.ipx_router.proofs.port_values.PortOfEachNumber.{one_up}
use Rattle.ipx_internet.specs.Internet.{Internet, Place, ports_of, port_of}
use Rattle.ipx_laws.specs.Least.{Way, by_port, IsWay, direct, further}
use Rattle.ipx_laws.specs.Real.{IsTaken, IsReal, next, farther}
use Rattle.ipx_laws.proofs.tables.LeastWays.{own_is, own_there, port_up}
use Rattle.ipx_laws.proofs.tables.NoRouteIsBetter.{off_where_wanted}

module _ (net : Internet) (up : ℕ → List ℕ) (in_ports : (router : ℕ) → AllByRecursion (λ j. j < length (ports_of net router)) (up router)) where
  -- such a way
  pub record HasWay (router : ℕ) (r : RouteOffer) : Type 0 where
    pub way : Way
    pub is_way : IsWay net up r.network router way
    pub hops : way.hops ≡ r.hops
    pub near : r.hops < unreachable

  -- a neighbour's way to the network, gone on
  goes_on : (router : ℕ) (r : RouteOffer) (from : Place) (e : RipEntry) → IsTaken net up router r from e → (way : Way) → IsWay net up r.network from.router way
      → IsWay net up r.network router (by_port (port_of net from).cost way)
  goes_on router r from e taken way is =
      further r.port from (off_where_wanted (ports_of net router) r.network taken.wanted) (λ same. taken.other (sym same)) taken.here
      (one_up (λ k. k < length (ports_of net from.router)) (up from.router) from.port (in_ports from.router) taken.there) taken.there taken.network is

  pub has_way : {router : ℕ} {r : RouteOffer} → IsReal net up router r → HasWay router r
  has_way {router} {r} (next from beside on apart taken) =
      let ports = ports_of net from.router in
      let named : (port_at ports beside).network ≡ r.network = sym (ap (λ (x : RouteOffer). x.network) taken.offer) in
      let (w, some) = own_there ports (up from.router) r.network (port_up ports (up from.router) r.network beside on named) in
      let (j, on_j, same_j, is_w) = own_is ports (up from.router) r.network w some in
      let none = ap (λ (x : Way). x.hops) is_w in
      let hops = ap (λ (x : RouteOffer). x.hops) taken.offer in
      record {
        way = by_port (port_of net from).cost w;
        is_way = goes_on router r from _ taken w (direct some);
        hops = omega (arith, none, hops);
        near = omega (arith, hops);
      }
  has_way {router} {r} (farther from s apart taken near real) =
      let rest = has_way real in
      let named : s.network ≡ r.network = sym (ap (λ (x : RouteOffer). x.network) taken.offer) in
      let hops = ap (λ (x : RouteOffer). x.hops) taken.offer in
      let as_many = rest.hops in
      record {
        way = by_port (port_of net from).cost rest.way;
        is_way = goes_on router r from _ taken rest.way (subst (λ (n : Network). IsWay net up n from.router rest.way) named rest.is_way);
        hops = omega (arith, hops, as_many);
        near = near;
      }
