-- What a table keeps of the routes that neighbours offer for a network: a route as good as the least way stays, but for another one as good,
-- and comes where a neighbour offers it whose least way, gone on, it is.
use Rattle.std.proofs.Common.{◌≡◌, refl, sym, ap, ◌∙◌, subst, ◌⊎◌, ℕ, nat_le, true, false, List, map, find, Option, None, Some, inl, inr, arith, is_eq, rules}
use Rattle.std.specs.List.{AllByRecursion}
use Rattle.std.specs.Ordering.{is_gt}
use Rattle.std.proofs.lemmas.Bool.{cases_Bool, cases_eq, leb-true}
use Rattle.ipx_table.specs.Reading.{rank_order}
use Rattle.ipx_table.specs.Stands.{IsDistinct}
use Rattle.ipx_table.specs.declared.held.Held.{Held}
use Rattle.ipx_wire.specs.declared.network.Network.{Network}
use Rattle.ipx_wire.specs.declared.node.Node.{Node}
use Rattle.ipx_router.specs.Numbers.{unreachable}
use Rattle.ipx_router.specs.Routes.{route_rules, route_reading, network_order}
use Rattle.ipx_router.specs.declared.route_offer.RouteOffer.{RouteOffer}
use Rattle.ipx_router.proofs.bounds.PacketsOfEachEvent.{network_total}
use Rattle.ipx_internet.specs.Internet.{Place, ports_of, port_of, network_of}
use Rattle.ipx_internet.proofs.lists.FoundInAList.{nothing}
use Rattle.ipx_internet.proofs.places.OneReceiverOfANode.{one_port, apart_at, same_place, same_number}
use Rattle.ipx_internet.proofs.trees.RunIsALog.{router_there}
use Rattle.ipx_laws.specs.Least.{Way, is_on, by_port, way_of}
use Rattle.ipx_laws.specs.Real.{IsReal}
use Rattle.ipx_laws.proofs.records.BestIsKept.{AreBest, IsSteady, HasPlace}
use Rattle.ipx_laws.proofs.records.SameSource.{source_parts}
use Rattle.ipx_laws.proofs.tables.Given.{Given, FineOf, real_one}
use Rattle.ipx_laws.proofs.tables.LeastWays.{NoWorse, few, both_no_worse, same_way, IsNeighbour, within, same_some}
use Rattle.ipx_laws.proofs.tables.NoRouteIsBetter.{there_where_up, real_way, none_beats, came_from, Source}
use Rattle.ipx_laws.proofs.tables.RoomForEachNetwork.{same_where_equal, not_worse, worse, has_room, may}

-- offers with the same fields
pub same_offer : (a b : RouteOffer) → a.network ≡ b.network → a.hops ≡ b.hops → a.ticks ≡ b.ticks → a.port ≡ b.port → a.node ≡ b.node → a ≡ b
same_offer a b network hops ticks port node =
    let make : Network → ℕ → ℕ → ℕ → Node → RouteOffer = λ n h t p m. record { network = n; hops = h; ticks = t; port = p; node = m } in
    ap (λ n. make n a.hops a.ticks a.port a.node) network ∙ ap (λ h. make b.network h a.ticks a.port a.node) hops
    ∙ ap (λ t. make b.network b.hops t a.port a.node) ticks ∙ ap (λ p. make b.network b.hops b.ticks p a.node) port
    ∙ ap (λ m. make b.network b.hops b.ticks b.port m) node

module _ (given : Given) (router : ℕ) (v : Way) (off : is_on (ports_of given.net router) given.network ≡ false)
    (least : within given.net given.up given.in_ports given.network 15 router ≡ Some v) where
  open given use {net, is, differ, cheap, up, in_ports, most_routes, foreign, room, network, suffice}

  abbrev IsSource : ℕ → Place → Type 0
  IsSource port from = Source net is cheap up in_ports network router v port from

  -- what a neighbour offers whose least way, gone on, is the router's
  abbrev pub right_offer : ℕ → Place → RouteOffer
  right_offer port from = record { network = network; hops = v.hops; ticks = v.ticks; port = port; node = (port_of net from).node }

  -- the route is such an offer
  pub record Right (from : Place) (o : RouteOffer) : Type 0 where
    pub source : IsSource o.port from
    pub same : o ≡ right_offer o.port from

  -- a neighbour's port is known by port and node
  pub one_place : (p q : ℕ) (a b : Place) → p ≡ q → IsNeighbour net up in_ports router p a → IsNeighbour net up in_ports router q b → (port_of net a).node ≡ (port_of net b).node → a ≡ b
  one_place p q a b same one two node =
      let nets : network_of net a ≡ network_of net b =
      sym one.network ∙ ap (λ k. network_of net (record { router = router; port = k })) same ∙ two.network in
      elim (cases_eq a.router b.router) [
        | inl e ↦ same_place net is a b e one.place two.place nets
        | inr apart ↦ absurd (differ a b one.place two.place apart nets node)
      ]

  -- it is such a neighbour or isn't
  pub decide : (port : ℕ) (from : Place) → IsNeighbour net up in_ports router port from → IsSource port from ⊎ (IsSource port from → ⊥)
  decide port from neighbour = by (within net up in_ports network 15 from.router) refl
    where
      by : (o : Option Way) → within net up in_ports network 15 from.router ≡ o → IsSource port from ⊎ (IsSource port from → ⊥)
      by None none = inr (λ s. nothing (sym none ∙ s.there))
      by (Some u) some =
          let on = by_port (port_of net from).cost u in
          let otherwise = λ (s : IsSource port from).
          s.by ∙ ap (by_port (port_of net from).cost) (same_some net up in_ports network (within net up in_ports network 15 from.router) s.way u s.there some) in
          elim (cases_eq v.ticks on.ticks) [
            | inr apart ↦ inr (λ s. apart (ap (λ (w : Way). w.ticks) (otherwise s)))
            | inl ticks ↦ elim (cases_eq v.hops on.hops) [
              | inr apart ↦ inr (λ s. apart (ap (λ (w : Way). w.hops) (otherwise s)))
              | inl hops ↦ inl (record { neighbour = neighbour; way = u; there = some; by = same_way v on ticks hops })
            ]
          ]

  -- a route of a real way that is as good as the least way is such an offer
  pub right_where_least : (r : RouteOffer) → IsReal net up router r → r.network ≡ network → v ≡ way_of r → (from : Place) × Right from r
  right_where_least r real named same =
      let way = real_way net is cheap up in_ports network real named in (
        way.from,
        record {
          source = came_from net is cheap up in_ports network suffice router r v way least same;
          same = same_offer r (right_offer r.port way.from) named (sym (ap (λ (w : Way). w.hops) same)) (sym (ap (λ (w : Way). w.ticks) same)) refl way.node;
        },
      )

  -- no route of a real way is better
  pub not_beaten : (r : RouteOffer) → IsReal net up router r → r.network ≡ network → NoWorse v (way_of r)
  not_beaten r real named =
      let (w, is_w, less) = none_beats net is cheap up in_ports network router r (real_way net is cheap up in_ports network real named) in
      subst (λ (x : Way). NoWorse x (way_of r)) (same_some net up in_ports network (within net up in_ports network 15 router) w v is_w least) less

  pub right_way : (from : Place) (o : RouteOffer) → Right from o → way_of o ≡ v
  right_way from o right = ap way_of right.same

  pub right_node : (from : Place) (o : RouteOffer) → Right from o → o.node ≡ (port_of net from).node
  right_node from o right = ap (λ (r : RouteOffer). r.node) right.same

  -- ---- what a table keeps of the network

  -- a route of a real way, if hosts may not tell of its network
  abbrev pub Fine : RouteOffer → Type 0
  Fine = FineOf given router

  abbrev pub real_of : (r : RouteOffer) → Fine r → r.network ≡ network → IsReal net up router r
  real_of = real_one given router

  abbrev pub shares : List ℕ
  shares = map (λ p. p.route_share) (ports_of net router)

  abbrev pub one : (k : Network) → is_eq (network_order k network) ≡ true → k ≡ network
  one k e = same_number k network (same_where_equal k.0 network.0 e)

  -- such offers are the best of the real ones
  pub best : AreBest route_reading network_order network_total most_routes shares network one Fine Right
  best = record {
    named = λ f g right. ap (λ (r : RouteOffer). r.network) right.same;
    up = λ f g right. elim (cases_Bool (nat_le unreachable g.hops)) [
      | inr near ↦ near
      | inl down ↦
          let hops = ap (λ (r : RouteOffer). r.hops) right.same in
          let most = few net up in_ports network 15 router v least in
          let many = leb-true unreachable g.hops down in
          absurd (omega (arith, hops, most, many))
    ];
    first = λ f g o right fine named. elim (cases_Bool (is_gt (rank_order (g.ticks, g.hops) (o.ticks, o.hops)))) [
      | inr so ↦ so
      | inl e ↦ absurd (worse (way_of g) (way_of o) e (subst (λ (w : Way). NoWorse w (way_of o)) (sym (right_way f g right)) (not_beaten o (real_of o fine named) named)))
    ];
    equal = λ f g o right fine named as_good.
        let real = real_of o fine named in
        let two : NoWorse (way_of o) v = subst (λ (w : Way). NoWorse (way_of o) w) (right_way f g right) (not_worse (way_of o) (way_of g) as_good) in
        right_where_least o real named (both_no_worse v (way_of o) (not_beaten o real named) two);
    alike = λ f g o a b.
        let one = a.source.neighbour in
        let two = b.source.neighbour in
        let ports = one_port (ports_of net router) (apart_at net is router) g.port o.port one.here two.here (one.network ∙ sym two.network) in
        a.same ∙ ap (λ p. right_offer p f) ports ∙ sym b.same;
  }

  -- what a neighbour offers, if it is right where such an offer is due
  pub steady : (from : Place) (o : RouteOffer) → IsNeighbour net up in_ports router o.port from → o.node ≡ (port_of net from).node
      → (nat_le unreachable o.hops ≡ false → Fine o) → (IsSource o.port from → o ≡ right_offer o.port from)
      → IsSteady route_reading network_order network_total most_routes shares network one Fine Right o
  steady from o neighbour node real due = search (rules, source_parts, one_place, right_node)

  -- and there is room for it
  pub place : (held : List (Held RouteOffer)) → IsDistinct (route_rules (ports_of net router) most_routes).by_key held
      → AllByRecursion (λ h. Fine h.offer) held → (from : Place) (o : RouteOffer) → Right from o → Fine o
      → HasPlace route_reading network_order network_total most_routes shares network one Fine Right held o
  place held distinct all from o right fine =
      let there = there_where_up net is cheap up in_ports network in
      let inside = router_there net router o.port right.source.neighbour.here in
      let same : o.network ≡ network = ap (λ (r : RouteOffer). r.network) right.same in
      let finds : (n : Network) → Option (Held RouteOffer) = λ n. find (λ h. is_eq (network_order h.offer.network n)) held in
      record {
        admits = λ none. has_room net up there router most_routes foreign room inside held distinct all o fine (ap finds same ∙ none);
        replaces = λ h some. may net up there router most_routes foreign room inside held distinct all o h (ap finds same ∙ some);
      }
