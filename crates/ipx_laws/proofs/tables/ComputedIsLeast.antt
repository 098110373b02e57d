-- The least way that is computed is a way, and no way of at most fifteen hops is better.
use Rattle.std.proofs.Common.{◌≡◌, sym, ◌∙◌, subst, ℕ, zero, suc, ◌+◌, ◌-◌, ◌<◌, ◌≤◌, ◌==◌, ◌&&◌, nat_lt, false, List, length, Some, inl, inr, arith}
use Rattle.std.specs.List.{AllByRecursion}
use Rattle.std.proofs.lemmas.Bool.{cases_Bool, and_parts, or_cases, ltb-true, eqb-true}
use Rattle.ipx_wire.specs.declared.network.Network.{Network}
use Rattle.ipx_router.proofs.port_values.PortOfEachNumber.{one_up}
use Rattle.ipx_internet.specs.Internet.{Internet, Place, ports_of, port_of}
use Rattle.ipx_internet.proofs.lists.FoundInAList.{nothing}
use Rattle.ipx_internet.proofs.trees.RunIsALog.{router_there}
use Rattle.ipx_laws.specs.Least.{Way, is_better, own_way, by_port, least, IsWay, direct, further}
use Rattle.ipx_laws.proofs.tables.LeastWays.{NoWorse, itself, no_worse_then, goes_on, none_of_own, own_is, IsNeighbour, within, first, own, is_there, came, none_better, many_more, few, on_or_off, OnOrOff}

-- what is no worse isn't beaten
not_beaten : (v w : Way) → NoWorse v w → is_better w v ≡ false
not_beaten v w less = elim (cases_Bool (is_better w v)) [
  | inr no_better ↦ no_better
  | inl better ↦ elim (or_cases (nat_lt w.ticks v.ticks) ((w.ticks == v.ticks) && nat_lt w.hops v.hops) better) [
    | inl fewer ↦
        let ticks = less.ticks in
        let strictly = ltb-true w.ticks v.ticks fewer in
        absurd (omega (arith, ticks, strictly))
    | inr equal ↦
        let parts = and_parts (w.ticks == v.ticks) (nat_lt w.hops v.hops) equal in
        let hops = less.hops (sym (eqb-true w.ticks v.ticks parts.0)) in
        let strictly = ltb-true w.hops v.hops parts.1 in
        absurd (omega (arith, hops, strictly))
  ]
]

module _ (net : Internet) (up : ℕ → List ℕ) (in_ports : (router : ℕ) → AllByRecursion (λ j. j < length (ports_of net router)) (up router)) (network : Network) where
  abbrev cost_of : Place → ℕ
  cost_of from = (port_of net from).cost

  is_way : (hops router : ℕ) (v : Way) → within net up in_ports network hops router ≡ Some v → OnOrOff net up in_ports network router → IsWay net up network router v
  is_way hops router v e (inl on) = direct (sym (own net up in_ports network hops router (is_there net up in_ports network hops router v e) on) ∙ e)
  is_way zero router v e (inr off) =
      let there = is_there net up in_ports network 0 router v e in
      nothing (sym (first net up in_ports network router there ∙ none_of_own net up in_ports network router off) ∙ e)
  is_way (suc hops) router v e (inr off) =
      let c = came net up in_ports network hops router v off e in
      subst (λ (w : Way). IsWay net up network router w) (sym c.by)
      (further c.port c.from off c.neighbour.other c.neighbour.on_here c.neighbour.place c.neighbour.on_there c.neighbour.network
      (is_way hops c.from.router c.way c.there (on_or_off net up in_ports network c.from.router)))

  pub least_is : (router : ℕ) (v : Way) → least net up router network ≡ Some v → IsWay net up network router v × (v.hops ≤ 15)
  least_is router v e = (is_way 15 router v e (on_or_off net up in_ports network router), few net up in_ports network 15 router v e)

  -- a router that has a way of its own is on the network, and there
  on_there : (router : ℕ) (w : Way) → own_way (ports_of net router) (up router) network ≡ Some w → (router < length net) × (w.hops ≡ 0)
  on_there router w e = grind (arith, own_is, router_there, one_up)

  pub beats : {router : ℕ} {w : Way} → IsWay net up network router w → (v : Way) × (within net up in_ports network w.hops router ≡ Some v) × NoWorse v w
  beats {router} {w} (direct e) =
      let there = on_there router w e in
      (w, subst (λ (n : ℕ). within net up in_ports network n router ≡ Some w) (sym there.1) (first net up in_ports network router there.0 ∙ e), itself w)
  beats {router} (further {way = way} port from off other on_here place on_there nets is) =
      let (u, is_u, less) = beats is in
      let neighbour : IsNeighbour net up in_ports router port from = record {
        other = other;
        place = place;
        here = one_up (λ k. k < length (ports_of net router)) (up router) port (in_ports router) on_here;
        network = nets;
        on_here = on_here;
        on_there = on_there;
      } in
      let (v, is_v, least_v) = none_better net up in_ports network way.hops router port from u neighbour off is_u in
      let one_more : suc way.hops ≡ way.hops + 1 = omega arith in (
        v,
        subst (λ (n : ℕ). within net up in_ports network n router ≡ Some v) one_more is_v,
        no_worse_then v (by_port (cost_of from) u) (by_port (cost_of from) way) least_v (goes_on (cost_of from) u way less),
      )

  pub none_beats_least : (router : ℕ) (w : Way) → IsWay net up network router w → w.hops ≤ 15
      → (v : Way) × (least net up router network ≡ Some v) × (is_better w v ≡ false)
  none_beats_least router w is short =
      let (u, is_u, less) = beats is in
      let (v, is_v, better) = many_more net up in_ports network (15 - w.hops) w.hops 15 router u (omega (arith, short)) is_u in
      (v, is_v, not_beaten v w (no_worse_then v u w better less))
