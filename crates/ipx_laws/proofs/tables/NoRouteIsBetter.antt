-- Routes of real ways and least ways, where all ports are up: no route is better than the least way, and a route that is as good came
-- from a neighbour whose own least way it is, gone on; that neighbour has its way from elsewhere.
use Rattle.std.proofs.Common.{◌≡◌, ◌≢◌, refl, sym, ap, ◌∙◌, subst, ◌⊎◌, ℕ, suc, ◌+◌, ◌-◌, ◌*◌, ◌<◌, ◌≤◌, nat_lt, true, false, List, length, Some, inl, inr, arith}
use Rattle.std.specs.List.{AllByRecursion}
use Rattle.std.proofs.lemmas.Bool.{cases_eq, lt-ltb}
use Rattle.ipx_wire.specs.declared.network.Network.{Network}
use Rattle.ipx_wire.specs.declared.rip.RipEntry.{RipEntry}
use Rattle.ipx_router.specs.Port.{Port, port_at, is_up, takes_no_route}
use Rattle.ipx_router.specs.Told.{told_at, direct_entry, entry_of}
use Rattle.ipx_router.specs.declared.route_offer.RouteOffer.{RouteOffer}
use Rattle.ipx_router.proofs.port_values.PortOfEachNumber.{one_up, port-all}
use Rattle.ipx_internet.specs.Internet.{Internet, Place, IsInternet, IsPlace, ports_of, port_of, network_of}
use Rattle.ipx_internet.proofs.lists.EachElement.{all_or}
use Rattle.ipx_internet.proofs.places.OneReceiverOfANode.{one_port, apart_at}
use Rattle.ipx_internet.proofs.trees.RunIsALog.{router_there}
use Rattle.ipx_laws.specs.Least.{Way, is_on, by_port, way_of, AreCheap, FifteenSuffice, most_cost}
use Rattle.ipx_laws.specs.Real.{IsReal, IsTaken, next, farther}
use Rattle.ipx_laws.proofs.tables.FifteenHopsSuffice.{costs, nothing_hidden}
use Rattle.ipx_laws.proofs.tables.LeastWays.{NoWorse, no_worse_then, goes_on, own_is, own_there, port_up, IsNeighbour, within, first, came, none_better, same_some, more, many_more, few, enough}

-- a network to which a route is taken is none of the ports'
pub off_where_wanted : (ports : List Port) (network : Network) → takes_no_route ports network ≡ false → is_on ports network ≡ false
off_where_wanted ports network e = grind arith

-- ticks that aren't too many are added
pub told_ticks : (cost : ℕ) (e : RipEntry) → e.ticks + cost < 65535 → (told_at cost e).ticks ≡ e.ticks + cost
told_ticks cost e less = let yes_less : nat_lt (e.ticks + cost) 65535 ≡ true = lt-ltb (e.ticks + cost) 65535 less in rw yes_less refl

module _ (net : Internet) (is : IsInternet net) (cheap : AreCheap net) (up : ℕ → List ℕ) (in_ports : (router : ℕ) → AllByRecursion (λ j. j < length
    (ports_of net router)) (up router))
    (network : Network) where
  abbrev cost_of : Place → ℕ
  cost_of from = (port_of net from).cost

  abbrev at : ℕ → ℕ → Place
  at router port = record { router = router; port = port }

  -- ---- ports

  pub there_where_up : (router port : ℕ) → is_up (up router) port ≡ true → port < length (ports_of net router)
  there_where_up router port on = grind (arith, one_up)

  pub most : (from : Place) → IsPlace net from → cost_of from ≤ most_cost
  most from there = grind (arith, port-all, all_or)

  -- ---- routes of real ways

  -- a route of a router came from a neighbour that had such a way, and has one that is no worse
  pub record RealWay (router : ℕ) (r : RouteOffer) : Type 0 where
    pub from : Place
    pub neighbour : IsNeighbour net up in_ports router r.port from
    pub off : is_on (ports_of net router) network ≡ false
    pub node : r.node ≡ (port_of net from).node
    pub way : Way
    pub by : way_of r ≡ by_port (cost_of from) way
    pub few_hops : way.hops ≤ 14
    pub few_ticks : way.ticks ≤ most_cost * (way.hops + 1)
    pub least : Way
    pub there : within net up in_ports network way.hops from.router ≡ Some least
    pub no_worse : NoWorse least way

  neighbour_of : (router : ℕ) (r : RouteOffer) (from : Place) (entry : RipEntry) → IsTaken net up router r from entry
      → IsNeighbour net up in_ports router r.port from
  neighbour_of router r from entry taken = grind (arith, there_where_up)

  off_of : (router : ℕ) (r : RouteOffer) (from : Place) (entry : RipEntry) → IsTaken net up router r from entry → r.network ≡ network
      → is_on (ports_of net router) network ≡ false
  off_of router r from entry taken same = grind arith

  -- a way that an entry tells of
  way_told : (router : ℕ) (r : RouteOffer) (from : Place) (entry : RipEntry) → (taken : IsTaken net up router r from (told_at (cost_of from) entry))
      → entry.ticks + cost_of from < 65535 → way_of r ≡ by_port (cost_of from) (record { hops = entry.hops; ticks = entry.ticks })
  way_told router r from entry taken less = grind arith

  pub real_way : {router : ℕ} {r : RouteOffer} → IsReal net up router r → r.network ≡ network → RealWay router r
  real_way {router} {r} (next from beside on apart taken) same =
      let ports = ports_of net from.router in
      let entry = direct_entry ports beside in
      let place = there_where_up from.router from.port taken.there in
      let there = there_where_up from.router beside on in
      let named : (port_at ports beside).network ≡ network = sym (ap (λ (x : RouteOffer). x.network) taken.offer) ∙ same in
      let a = most from place in
      let b = most (record { router = from.router; port = beside }) there in
      let (w, some) = own_there ports (up from.router) network (port_up ports (up from.router) network beside on named) in
      let (j, on_j, same_j, cost_j) = own_is ports (up from.router) network w some in
      let one : j ≡ beside = one_port ports (apart_at net is from.router) j beside (there_where_up from.router j on_j) there (same_j ∙ sym named) in
      let hops : w.hops ≡ 0 = ap (λ (x : Way). x.hops) cost_j in
      let cost : w.ticks ≡ (port_at ports beside).cost = ap (λ (x : Way). x.ticks) cost_j ∙ ap (λ k. (port_at ports k).cost) one in
      record {
        from = from;
        neighbour = neighbour_of router r from (told_at (cost_of from) entry) taken;
        off = off_of router r from (told_at (cost_of from) entry) taken same;
        node = ap (λ (x : RouteOffer). x.node) taken.offer;
        way = record { hops = 0; ticks = (port_at ports beside).cost };
        by = way_told router r from entry taken (omega (arith, a, b));
        few_hops = omega arith;
        few_ticks = omega (arith, b);
        least = w;
        there = first net up in_ports network from.router (router_there net from.router from.port place) ∙ some;
        no_worse = record { ticks = omega (arith, cost); hops = λ e. omega (arith, hops) };
      }
  real_way {router} {r} (farther from s apart taken near real) same =
      let entry = entry_of s in
      let place = there_where_up from.router from.port taken.there in
      let named : s.network ≡ network = sym (ap (λ (x : RouteOffer). x.network) taken.offer) ∙ same in
      let rest = real_way real named in
      let h = ap (λ (x : RouteOffer). x.hops) taken.offer in
      let a = most from place in
      let hops_by = ap (λ (w : Way). w.hops) rest.by in
      let ticks_by = ap (λ (w : Way). w.ticks) rest.by in
      let c = most rest.from rest.neighbour.place in
      let some = rest.few_ticks in
      let short : s.hops ≤ 14 = omega (arith, h, near) in
      let ticks : s.ticks ≤ most_cost * (s.hops + 1) = omega (arith, hops_by, ticks_by, c, some) in
      let (v, is_v, least) = none_better net up in_ports network rest.way.hops from.router s.port rest.from rest.least rest.neighbour rest.off rest.there in
      let one_more : suc rest.way.hops ≡ s.hops = omega (arith, hops_by) in
      let less : NoWorse v (way_of s) =
      no_worse_then v (by_port (cost_of rest.from) rest.least) (way_of s) least
      (subst (λ (w : Way). NoWorse (by_port (cost_of rest.from) rest.least) w) (sym rest.by) (goes_on (cost_of rest.from) rest.least rest.way rest.no_worse)) in
      record {
        from = from;
        neighbour = neighbour_of router r from (told_at (cost_of from) entry) taken;
        off = off_of router r from (told_at (cost_of from) entry) taken same;
        node = ap (λ (x : RouteOffer). x.node) taken.offer;
        way = way_of s;
        by = way_told router r from entry taken (omega (arith, ticks, short, a));
        few_hops = short;
        few_ticks = ticks;
        least = v;
        there = subst (λ (n : ℕ). within net up in_ports network n from.router ≡ Some v) one_more is_v;
        no_worse = less;
      }

  -- no route is better than the least way
  pub none_beats : (router : ℕ) (r : RouteOffer) → RealWay router r → (v : Way) × (within net up in_ports network 15 router ≡ Some v) × NoWorse v (way_of r)
  none_beats router r real =
      let (v, is_v, least) = none_better net up in_ports network real.way.hops router r.port real.from real.least real.neighbour real.off real.there in
      let short = real.few_hops in
      let (w, is_w, less) = many_more net up in_ports network (14 - real.way.hops) (suc real.way.hops) 15 router v (omega (arith, short)) is_v in (
        w,
        is_w,
        no_worse_then w v (way_of r) less
            (no_worse_then v (by_port (cost_of real.from) real.least) (way_of r) least
            (subst (λ (x : Way). NoWorse (by_port (cost_of real.from) real.least) x) (sym real.by) (goes_on (cost_of real.from) real.least real.way real.no_worse))),
      )

  -- ---- where a least way comes from

  -- a neighbour whose least way, gone on, is this one
  pub record Source (router : ℕ) (v : Way) (port : ℕ) (from : Place) : Type 0 where
    pub neighbour : IsNeighbour net up in_ports router port from
    pub way : Way
    pub there : within net up in_ports network 15 from.router ≡ Some way
    pub by : v ≡ by_port (cost_of from) way

  module _ (suffice : FifteenSuffice net up network) where
    -- there is one
    pub a_source : (router : ℕ) (v : Way) → is_on (ports_of net router) network ≡ false → within net up in_ports network 15 router ≡ Some v
        → (port : ℕ) × (from : Place) × Source router v port from
    a_source router v off e =
        let c = came net up in_ports network 14 router v off e in
        let (u, is_u, less) = more net up in_ports network 14 c.from.router c.way c.there in
        let same = nothing_hidden net up in_ports is network suffice router c.port c.from v c.way u c.neighbour off e c.by is_u less in
        (c.port, c.from, record { neighbour = c.neighbour; way = c.way; there = is_u ∙ ap Some same; by = c.by })

    -- and a route that is as good as the least way came from one
    pub came_from : (router : ℕ) (r : RouteOffer) (v : Way) → (real : RealWay router r) → within net up in_ports network 15 router ≡ Some v → v ≡ way_of r
        → Source router v r.port real.from
    came_from router r v real e same =
        let short = real.few_hops in
        let (u, is_u, less) = many_more net up in_ports network (15 - real.way.hops) real.way.hops 15 real.from.router real.least (omega
        (arith, short)) real.there in
        let equal = nothing_hidden net up in_ports is network suffice router r.port real.from v real.way u real.neighbour real.off e (same ∙ real.by) is_u
        (no_worse_then u real.least real.way less real.no_worse) in
        record { neighbour = real.neighbour; way = real.way; there = is_u ∙ ap Some equal; by = same ∙ real.by }

  -- the neighbour's own way doesn't come by the network between them
  pub elsewhere : (router : ℕ) (v : Way) (port : ℕ) (from : Place) (second_port : ℕ) (second : Place) → is_on (ports_of net router) network ≡ false
      → within net up in_ports network 15 router ≡ Some v → (one : Source router v port from) → Source from.router one.way second_port second
      → second_port ≢ from.port
  elsewhere router v port from second_port second off e one two same = by (cases_eq second.router router)
    where
      here : network_of net (at router port) ≡ network_of net second
      here = one.neighbour.network ∙ sym (ap (λ k. network_of net (record { router = from.router; port = k })) same) ∙ two.neighbour.network

      h : v.hops ≡ two.way.hops + 2
      h =
          let a = ap (λ (w : Way). w.hops) one.by in
          let b = ap (λ (w : Way). w.hops) two.by in
          omega (arith, a, b)

      by : (second.router ≡ router) ⊎ (second.router ≢ router) → ⊥
      by (inl back) =
          let again : within net up in_ports network 15 router ≡ Some two.way = subst (λ
          (r : ℕ). within net up in_ports network 15 r ≡ Some two.way) back two.there in
          let equal = ap (λ (w : Way). w.hops) (same_some net up in_ports network (within net up in_ports network 15 router) two.way v again e) in
          let hops = h in
          omega (arith, hops, equal)
      by (inr other) =
          let hops = h in
          let bound = few net up in_ports network 15 router v e in
          let neighbour : IsNeighbour net up in_ports router port second =
          record {
            other = other;
            place = two.neighbour.place;
            here = one.neighbour.here;
            network = here;
            on_here = one.neighbour.on_here;
            on_there = two.neighbour.on_there;
          } in
          let deeper = enough net up in_ports network 14 second.router two.way two.there (omega (arith, hops, bound)) in
          let (w, is_w, least) = none_better net up in_ports network 14 router port second two.way neighbour off deeper in
          let equal = ap (λ (x : Way). x.ticks) (same_some net up in_ports network (within net up in_ports network 15 router) w v is_w e) in
          let a = ap (λ (x : Way). x.ticks) one.by in
          let b = ap (λ (x : Way). x.ticks) two.by in
          let positive = costs net up in_ports is network from one.neighbour.place in
          let t = least.ticks in
          omega (arith, equal, a, b, positive, t)
