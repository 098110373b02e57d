-- Where more ports are up, no least way is worse.
use Rattle.std.proofs.Common.{◌≡◌, sym, ap, ◌∙◌, ℕ, ◌-◌, ◌<◌, true, List, length, Some, arith}
use Rattle.std.specs.List.{AllByRecursion}
use Rattle.ipx_wire.specs.declared.network.Network.{Network}
use Rattle.ipx_router.specs.Port.{port_at, is_up}
use Rattle.ipx_router.proofs.port_values.PortOfEachNumber.{one_up}
use Rattle.ipx_internet.specs.Internet.{Internet, IsInternet, ports_of}
use Rattle.ipx_internet.proofs.places.OneReceiverOfANode.{apart_at, one_port}
use Rattle.ipx_laws.specs.Least.{Way, own_way, IsWay, direct, further}
use Rattle.ipx_laws.proofs.tables.ComputedIsLeast.{least_is, beats}
use Rattle.ipx_laws.proofs.tables.LeastWays.{NoWorse, no_worse_then, within, own_is, own_there, port_up, many_more}

module _ (net : Internet) (is : IsInternet net) (few more : ℕ → List ℕ) (in_few : (router : ℕ) → AllByRecursion (λ j. j < length (ports_of net router)) (few router))
    (in_more : (router : ℕ) → AllByRecursion (λ j. j < length (ports_of net router)) (more router))
    (up : (router j : ℕ) → is_up (few router) j ≡ true → is_up (more router) j ≡ true) (network : Network) where
  -- a router has one port at most on the network
  pub own_too : (router : ℕ) (w : Way) → own_way (ports_of net router) (few router) network ≡ Some w → own_way (ports_of net router) (more router) network ≡ Some w
  own_too router w e =
      let ports = ports_of net router in
      let (j, on, same, way) = own_is ports (few router) network w e in
      let (v, some) = own_there ports (more router) network (port_up ports (more router) network j (up router j on) same) in
      let (k, on_k, same_k, way_k) = own_is ports (more router) network v some in
      let one : k ≡ j = one_port ports (apart_at net is router) k j (one_up (λ i. i < length ports) (more router) k (in_more router) on_k)
      (one_up (λ i. i < length ports) (few router) j (in_few router) on) (same_k ∙ sym same) in
      some ∙ ap Some (way_k ∙ ap (λ i. record { hops = 0; ticks = (port_at ports i).cost }) one ∙ sym way)

  pub way_too : {router : ℕ} {w : Way} → IsWay net few network router w → IsWay net more network router w
  way_too {router} {w} (direct e) = direct (own_too router w e)
  way_too {router} (further port from off apart here place there nets way) =
      further port from off apart (up router port here) place (up from.router from.port there) nets (way_too way)

  pub no_worse : (router : ℕ) (v : Way) → within net few in_few network 15 router ≡ Some v → (w : Way) × (within net more in_more network 15 router ≡ Some w) × NoWorse w v
  no_worse router v e =
      let (way, short) = least_is net few in_few network router v e in
      let (u, is_u, less) = beats net more in_more network (way_too way) in
      let (w, is_w, least) = many_more net more in_more network (15 - v.hops) v.hops 15 router u (omega (arith, short)) is_u in
      (w, is_w, no_worse_then w u v least less)
