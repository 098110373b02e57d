-- Fifteen hops suffice where there are at most sixteen routers, or all ports cost the same; and where they do, they hide no way: a neighbour
-- from which a least way came has no better one itself.
use Rattle.std.proofs.Common.{◌≡◌, ◌≢◌, refl, sym, ap, ap₂, ◌∙◌, subst, ◌⊎◌, ℕ, zero, suc, ◌+◌, ◌-◌, ◌<◌, ◌≤◌, ◌==◌, nat_lt, true, false, List, [], ◌∷◌, length, Option, None, Some, inl, inr, arith}
use Rattle.std.specs.List.{AllByRecursion, list_any}
use Rattle.std.proofs.lemmas.Bool.{cases_eq, cases_lt, lt-ltb, le-ltb}
use Rattle.ipx_wire.specs.declared.network.Network.{Network}
use Rattle.ipx_router.specs.Port.{numbers}
use Rattle.ipx_router.proofs.port_values.PortOfEachNumber.{one_up, port-all}
use Rattle.ipx_internet.specs.Different.{AreDifferent}
use Rattle.ipx_internet.specs.Internet.{Internet, Place, IsInternet, IsPlace, ports_of, port_of}
use Rattle.ipx_internet.proofs.lists.EachElement.{all_or, all_then, no_more_than}
use Rattle.ipx_internet.proofs.lists.FoundInAList.{nothing}
use Rattle.ipx_internet.proofs.lists.HowManyPass.{is_number, length-numbers}
use Rattle.ipx_internet.proofs.places.OneReceiverOfANode.{port_is}
use Rattle.ipx_internet.proofs.trees.RunIsALog.{router_there}
use Rattle.ipx_laws.specs.Least.{Way, is_on, by_port, nearest, ways_within, of_few_hops, FifteenSuffice, CostTheSame}
use Rattle.ipx_laws.proofs.tables.LeastWays.{NoWorse, both_no_worse, same_way, goes_on, own_is, IsNeighbour, within, first, later, own, none_of_own, is_there, came, none_better, same_some, more, many_more, few, enough, on_or_off, OnOrOff}

module _ (net : Internet) (up : ℕ → List ℕ) (in_ports : (router : ℕ) → AllByRecursion (λ j. j < length (ports_of net router)) (up router)) (is : IsInternet net)
    (network : Network) where
  abbrev cost_of : Place → ℕ
  cost_of from = (port_of net from).cost

  pub costs : (from : Place) → IsPlace net from → 0 < cost_of from
  costs from there = (port_is net is from there).cost

  -- ---- the routers of a way

  -- a router has a way of fewer hops, or as many, that costs no more
  pub record OnWay (hops : ℕ) (v : Way) (router : ℕ) : Type 0 where
    pub inside : router < length net
    pub after : ℕ
    pub no_more : after ≤ hops
    pub way : Way
    pub there : within net up in_ports network after router ≡ Some way
    pub ticks : way.ticks ≤ v.ticks

  -- as many different ones as a least way has hops, and one
  record Routers (hops : ℕ) (v : Way) : Type 0 where
    pub all : List ℕ
    pub count : length all ≡ suc hops
    pub differ : AreDifferent all
    pub each : AllByRecursion (OnWay hops v) all

  no_hops : (hops router : ℕ) (v : Way) → within net up in_ports network hops router ≡ Some v → is_on (ports_of net router) network ≡ true → v.hops ≡ 0
  no_hops hops router v e on = grind (arith, is_there, own_is, own)

  routers_of : (hops router : ℕ) (v : Way) → within net up in_ports network hops router ≡ Some v → v.hops ≡ hops → OnOrOff net up in_ports network router
      → Routers hops v
  routers_of zero router v e exact case = record {
    all = router ∷ [];
    count = refl;
    differ = (tt, tt);
    each = (record { inside = is_there net up in_ports network 0 router v e; after = 0; no_more = omega arith; way = v; there = e; ticks = omega arith }, tt);
  }
  routers_of (suc hops) router v e exact (inl on) =
      let none = no_hops (suc hops) router v e on in
      absurd (omega (arith, none, exact))
  routers_of (suc hops) router v e exact (inr off) =
      let c = came net up in_ports network hops router v off e in
      let h = ap (λ (w : Way). w.hops) c.by in
      let t = ap (λ (w : Way). w.ticks) c.by in
      let positive = costs c.from c.neighbour.place in
      let rest = routers_of hops c.from.router c.way c.there (omega (arith, h, exact)) (on_or_off net up in_ports network c.from.router) in
      let count = rest.count in
      record {
        all = router ∷ rest.all;
        count = omega (arith, count);
        differ = (
          all_then (OnWay hops c.way) (λ other. other ≢ router) (λ other on same.
              let (w, is_w, less) = many_more net up in_ports network (suc hops - on.after) on.after (suc hops) other on.way (let n = on.no_more in omega
              (arith, n)) on.there in
              let again : within net up in_ports network (suc hops) router ≡ Some w = subst (λ (r : ℕ). within net up in_ports network
              (suc hops) r ≡ Some w) same is_w in
              let equal = ap (λ (x : Way). x.ticks) (same_some net up in_ports network (within net up in_ports network (suc hops) router) w v again e) in
              let most = less.ticks in
              let bound = on.ticks in
              omega (arith, equal, most, bound, t, positive)) rest.all rest.each,
          rest.differ,
        );
        each = (
          record {
            inside = is_there net up in_ports network
                (suc hops) router v e;
            after = suc hops;
            no_more = omega arith;
            way = v;
            there = e;
            ticks = omega arith;
          },
          all_then (OnWay hops c.way) (OnWay (suc hops) v) (λ other on.
              let n = on.no_more in
              let bound = on.ticks in
              record {
                inside = on.inside;
                after = on.after;
                no_more = omega (arith, n);
                way = on.way;
                there = on.there;
                ticks = omega
                    (arith, bound, t);
              }) rest.all rest.each,
        );
      }

  -- there aren't as many
  too_long : (router : ℕ) (v : Way) → length net ≤ 16 → within net up in_ports network 16 router ≡ Some v → v.hops ≡ 16 → ⊥
  too_long router v few_routers e exact =
      let rs : Routers 16 v = routers_of 16 router v e exact (on_or_off net up in_ports network router) in
      let count = rs.count in
      let long = length-numbers (length net) in
      let most = no_more_than (λ n. n) (λ a b same. same) rs.all (numbers (length net)) rs.differ
      (all_then (OnWay 16 v) (λ r. list_any (λ y. y == r) (numbers (length net)) ≡ true) (λ r on. is_number r (length net) on.inside) rs.all rs.each) in
      omega (arith, most, count, long, few_routers)

  -- ---- where they suffice

  -- no way of sixteen hops is taken for a shorter one
  abbrev NoneLonger : Type 0
  NoneLonger =
      (router : ℕ) (v w : Way) → is_on (ports_of net router) network ≡ false → within net up in_ports network 15 router ≡ Some v
      → within net up in_ports network 16 router ≡ Some w → w.hops ≡ 16 → ⊥

  suffices : NoneLonger → FifteenSuffice net up network
  suffices never = record {
    each = λ router inside off. by router off (within net up in_ports network 16 router) (within net up in_ports network 15 router)
        refl refl ∙ ap of_few_hops (later net up in_ports network 15 router inside);
  }
    where
      short : (router : ℕ) (w : Way) → is_on (ports_of net router) network ≡ false → within net up in_ports network 16 router ≡ Some w
          → (w.hops < 16) ⊎ (16 ≤ w.hops) → within net up in_ports network 15 router ≡ of_few_hops (Some w)
      short router w off e (inl less) =
          let few : nat_lt 15 w.hops ≡ false = le-ltb 15 w.hops (omega (arith, less)) in
          enough net up in_ports network 15 router w e (omega (arith, less)) ∙ rw few refl
      short router w off e (inr most) = none (within net up in_ports network 15 router) refl
        where
          exact : w.hops ≡ 16
          exact = let bound = few net up in_ports network 16 router w e in omega (arith, bound, most)

          many : nat_lt 15 w.hops ≡ true
          many = lt-ltb 15 w.hops (omega (arith, most))

          none : (o : Option Way) → within net up in_ports network 15 router ≡ o → within net up in_ports network 15 router ≡ of_few_hops (Some w)
          none None is_none = is_none ∙ rw many refl
          none (Some v) is_v = absurd (never router v w off is_v e exact)

      by : (router : ℕ) → is_on (ports_of net router) network ≡ false → (o p : Option Way) → within net up in_ports network 16 router ≡ o
          → within net up in_ports network 15 router ≡ p → within net up in_ports network 15 router ≡ of_few_hops (within net up in_ports network 16 router)
      by router off (Some w) p e f = short router w off e (cases_lt w.hops 16) ∙ ap of_few_hops (sym e)
      by router off None None e f = f ∙ ap of_few_hops (sym e)
      by router off None (Some v) e f =
          let (w, is_w, less) = more net up in_ports network 15 router v f in
          nothing (sym e ∙ is_w)

  pub of_few_routers : length net ≤ 16 → FifteenSuffice net up network
  of_few_routers few_routers = suffices (λ router v w off is_v is_w long. too_long router w few_routers is_w long)

  -- where every port costs the same, a way of fewer hops costs less
  abbrev total : ℕ → ℕ → ℕ
  total cost zero = cost
  total cost (suc hops) = total cost hops + cost

  less_total : (cost a b : ℕ) → 0 < cost → a < b → total cost a < total cost b
  less_total cost a zero some less = absurd (omega (arith, less))
  less_total cost a (suc b) some less = elim (cases_eq a b) [
    | inl same ↦ let equal = ap (total cost) same in omega (arith, equal, some)
    | inr off ↦ let fewer = less_total cost a b some (omega (arith, less, off)) in omega (arith, fewer)
  ]

  module _ (cost : ℕ) (all_same : CostTheSame net cost) where
    one_cost : (from : Place) → IsPlace net from → cost_of from ≡ cost
    one_cost from there = grind (arith, port-all, all_or)

    costs_total : (hops router : ℕ) (v : Way) → within net up in_ports network hops router ≡ Some v → OnOrOff net up in_ports network router
        → v.ticks ≡ total cost v.hops
    costs_total hops router v e (inl on) =
        let there = is_there net up in_ports network hops router v e in
        let (j, is_j, same, way) = own_is (ports_of net router) (up router) network v (sym (own net up in_ports network hops router there on) ∙ e) in
        let here = one_up (λ k. k < length (ports_of net router)) (up router) j (in_ports router) is_j in
        ap (λ (w : Way). w.ticks) way ∙ one_cost (record { router = router; port = j }) here ∙ sym (ap (λ (w : Way). total cost w.hops) way)
    costs_total zero router v e (inr off) =
        let there = is_there net up in_ports network 0 router v e in
        nothing (sym (first net up in_ports network router there ∙ none_of_own net up in_ports network router off) ∙ e)
    costs_total (suc hops) router v e (inr off) =
        let c = came net up in_ports network hops router v off e in
        let rest = costs_total hops c.from.router c.way c.there (on_or_off net up in_ports network c.from.router) in
        let one_more : suc c.way.hops ≡ c.way.hops + 1 = omega arith in
        ap (λ (w : Way). w.ticks) c.by ∙ ap₂ (λ (a b : ℕ). a + b) rest (one_cost c.from c.neighbour.place) ∙ ap (total cost) one_more
        ∙ sym (ap (λ (w : Way). total cost w.hops) c.by)

    pub of_equal_costs : FifteenSuffice net up network
    of_equal_costs =
        suffices (λ router v w off is_v is_w long.
        let (u, is_u, less) = more net up in_ports network 15 router v is_v in
        let same = ap (λ (x : Way). x.ticks) (same_some net up in_ports network (within net up in_ports network 16 router) u w is_u is_w) in
        let ticks = less.ticks in
        let one = costs_total 15 router v is_v (on_or_off net up in_ports network router) in
        let two = costs_total 16 router w is_w (on_or_off net up in_ports network router) in
        let c = came net up in_ports network 15 router w off is_w in
        let positive = costs c.from c.neighbour.place in
        let is_cost = one_cost c.from c.neighbour.place in
        let short = few net up in_ports network 15 router v is_v in
        let fewer = less_total cost v.hops w.hops (omega (arith, positive, is_cost)) (omega (arith, short, long)) in
        omega (arith, same, ticks, one, two, fewer))

  -- ---- nothing is hidden

  -- what isn't of too many hops is that way
  pub taken : (o : Option Way) (v w : Way) → Some v ≡ of_few_hops o → o ≡ Some w → w ≡ v
  taken o v w e is = grind arith

  -- where there is a least way, none of sixteen hops is better
  pub none_better_still : FifteenSuffice net up network → (router port : ℕ) (from : Place) (v u : Way) → IsNeighbour net up in_ports router port from
      → is_on (ports_of net router) network ≡ false → within net up in_ports network 15 router ≡ Some v
      → within net up in_ports network 15 from.router ≡ Some u → NoWorse v (by_port (cost_of from) u)
  none_better_still suffice router port from v u neighbour off is_v is_u =
      let (w, is_w, less) = none_better net up in_ports network 15 router port from u neighbour off is_u in
      let inside = router_there net router port neighbour.here in
      let same = taken (nearest net up network (ways_within net up 15 network) router) v w (sym is_v ∙ suffice.each router inside off)
      (sym (later net up in_ports network 15 router inside) ∙ is_w) in
      subst (λ (x : Way). NoWorse x (by_port (cost_of from) u)) same less

  pub nothing_hidden : FifteenSuffice net up network → (router port : ℕ) (from : Place) (v s u : Way) → IsNeighbour net up in_ports router port from → is_on
      (ports_of net router) network ≡ false
      → within net up in_ports network 15 router ≡ Some v → v ≡ by_port (cost_of from) s → within net up in_ports network 15 from.router ≡ Some u → NoWorse u s
      → u ≡ s
  nothing_hidden suffice router port from v s u neighbour off is_v by_s is_u less = grind (arith, NoWorse, none_better_still, goes_on, both_no_worse, same_way)
