-- A router that holds a route of its least way: what it says of the network to its neighbours, and what waits for them.
use Rattle.std.proofs.Common.{◌≡◌, ◌≢◌, refl, sym, ap, ◌∙◌, subst, ℕ, zero, suc, ◌+◌, ◌*◌, ◌<◌, ◌≤◌, ◌==◌, ◌||◌, nat_lt, true, false, not, List, [], ◌∷◌, length, map, filter, flat_map, find, Option, None, Some, option_map, inl, inr, arith, is_eq}
use Rattle.std.specs.List.{AllByRecursion}
use Rattle.std.proofs.lemmas.Bool.{eqb-true, ne_eqb, eq-eqb, lt-ltb, both_ways, or_right}
use Rattle.ipx_table.specs.Facts.{Fact}
use Rattle.ipx_table.specs.declared.held.Held.{Held}
use Rattle.ipx_table.proofs.Living.{kept}
use Rattle.ipx_table.proofs.Standing.{record-in_order, rules_total}
use Rattle.ipx_wire.specs.Piece.{IsBytes}
use Rattle.ipx_wire.specs.declared.network.Network.{Network}
use Rattle.ipx_wire.specs.declared.node.Node.{Node}
use Rattle.ipx_wire.specs.declared.rip.RipEntry.{RipEntry}
use Rattle.ipx_router.specs.Facts.{route_facts, routes_held, offers}
use Rattle.ipx_router.specs.History.{History}
use Rattle.ipx_router.specs.Port.{Port, broadcast, port_at, is_up, takes_no_route, same_node, own_address, everyone}
use Rattle.ipx_router.specs.Relays.{Sent}
use Rattle.ipx_router.specs.Routes.{route_rules, route_reading, network_order}
use Rattle.ipx_router.specs.Told.{told, is_route_told}
use Rattle.ipx_router.specs.News.{news}
use Rattle.ipx_router.specs.declared.route_offer.RouteOffer.{RouteOffer}
use Rattle.ipx_router.proofs.bounds.PacketsOfEachEvent.{network_total}
use Rattle.ipx_router.proofs.changes.DiffersByOneFact.{found}
use Rattle.ipx_router.proofs.tables.HeldWasOffered.{all_in_order, all_offers}
use Rattle.ipx_internet.specs.Delivery.{receives, delivered}
use Rattle.ipx_internet.specs.Internet.{Place, IsPlace, ports_of, port_of, network_of, places}
use Rattle.ipx_internet.specs.Queue.{Delivery, deliveries_of}
use Rattle.ipx_internet.specs.Rounds.{IsDelivery}
use Rattle.ipx_internet.proofs.lists.EachElement.{all_or, all_then, all_of}
use Rattle.ipx_internet.proofs.lists.FoundInAList.{nothing}
use Rattle.ipx_internet.proofs.packets.PagesReadAgain.{IsRipPage}
use Rattle.ipx_internet.proofs.places.OneReceiverOfANode.{one_port, apart_at, port_is}
use Rattle.ipx_laws.specs.Least.{Way, is_on, way_of, most_cost}
use Rattle.ipx_laws.proofs.lists.SomeElement.{any_passes, only_found, find_any, AnyIs, any_then, any_and_all, any-map, any-filter, any-flat_map}
use Rattle.ipx_laws.proofs.tables.Given.{Given}
use Rattle.ipx_laws.proofs.tables.GoodRoutesStay.{Right, right_way}
use Rattle.ipx_laws.proofs.tables.LeastRouteSurvives.{StateOf, known, records}
use Rattle.ipx_laws.proofs.tables.LeastWays.{within, own, own_is, on_or_off, OnOrOff, came, first, none_of_own, same_some, is_there, all_places, on_port, port_on}
use Rattle.ipx_laws.proofs.tables.NoRouteIsBetter.{Source, most, elsewhere, there_where_up}
use Rattle.ipx_laws.proofs.tables.RoomForEachNetwork.{equal_where_same}
use Rattle.ipx_laws.proofs.tables.SaysItsLeastWay.{IsWord, HasWay, told_words, news_words, told_route, told_direct, Tells}
use Rattle.ipx_laws.proofs.ticks.RealOrSoonEnded.{Reaches, RouteSaid}

module _ (given : Given) where
  open given use {net, is, cheap, up, in_ports, most_routes, foreign, network}

  -- ---- a router that should have a route

  -- it isn't on the network, and there is a way
  pub record Wants (router : ℕ) : Type 0 where
    pub v : Way
    pub off : is_on (ports_of net router) network ≡ false
    pub least : within net up in_ports network 15 router ≡ Some v
    pub wanted : takes_no_route (ports_of net router) network ≡ false

  pub some_port : (hops router : ℕ) (v : Way) → within net up in_ports network hops router ≡ Some v → OnOrOff net up in_ports network router
      → (place : Place) × IsPlace net place × (network_of net place ≡ network)
  some_port hops router v e (inl on) =
      let (j, less, same) = on_port (ports_of net router) network on in
      (record { router = router; port = j }, less, same)
  some_port zero router v e (inr off) =
      let there = is_there net up in_ports network 0 router v e in
      nothing (sym (first net up in_ports network router there ∙ none_of_own net up in_ports network router off) ∙ e)
  some_port (suc hops) router v e (inr off) =
      let c = came net up in_ports network hops router v off e in
      some_port hops c.from.router c.way c.there (on_or_off net up in_ports network c.from.router)

  pub wants : (router : ℕ) (v : Way) → is_on (ports_of net router) network ≡ false → within net up in_ports network 15 router ≡ Some v → Wants router
  wants router v off e =
      let (place, there, same) = some_port 15 router v e (inr off) in
      let port = port_is net is place there in
      let some = port.some_network in
      let ordinary = port.ordinary_network in
      let number = ap (λ (n : Network). n.0) same in
      let not_zero : (network.0 == 0) ≡ false = ne_eqb network.0 0 (λ zero. omega (arith, zero, some, number)) in
      let not_all : (network.0 == 0xFFFFFFFF) ≡ false = ne_eqb network.0 0xFFFFFFFF (λ all. omega (arith, all, ordinary, number)) in
      record { v = v; off = off; least = e; wanted = rw (not_zero, not_all, off) refl }

  -- ticks aren't too many
  few_ticks : (hops router : ℕ) (v : Way) → within net up in_ports network hops router ≡ Some v → OnOrOff net up in_ports network router → v.ticks ≤ most_cost *
      (v.hops + 1)
  few_ticks hops router v e (inl on) =
      let there = is_there net up in_ports network hops router v e in
      let (j, on_j, same, way) = own_is (ports_of net router) (up router) network v (sym (own net up in_ports network hops router there on) ∙ e) in
      let cost = most net is cheap up in_ports network (record { router = router; port = j }) (there_where_up net is cheap up in_ports network router j on_j) in
      let none = ap (λ (w : Way). w.hops) way in
      let ticks = ap (λ (w : Way). w.ticks) way in
      omega (arith, cost, none, ticks)
  few_ticks zero router v e (inr off) =
      let there = is_there net up in_ports network 0 router v e in
      nothing (sym (first net up in_ports network router there ∙ none_of_own net up in_ports network router off) ∙ e)
  few_ticks (suc hops) router v e (inr off) =
      let c = came net up in_ports network hops router v off e in
      let rest = few_ticks hops c.from.router c.way c.there (on_or_off net up in_ports network c.from.router) in
      let cost = most net is cheap up in_ports network c.from c.neighbour.place in
      let h = ap (λ (w : Way). w.hops) c.by in
      let t = ap (λ (w : Way). w.ticks) c.by in
      omega (arith, h, t, rest, cost)

  cost_few : (router j : ℕ) → (port_at (ports_of net router) j).cost ≤ most_cost
  cost_few router j =
      all_or (λ p. p.cost ≤ most_cost) (ports_of net router) j (port_at [] 0) (all_or (AllByRecursion (λ p. p.cost ≤ most_cost)) net router [] cheap tt) (omega arith)

  -- the tables of a router
  abbrev pub StateFor : (router : ℕ) → Wants router → (Place → ℕ → Type 0) → (Place → ℕ → Type 0) → Type 0 → (RouteOffer → Type 0) → Option (Held RouteOffer)
      → Type 0
  StateFor router w = StateOf given router w.v w.off w.least w.wanted

  abbrev pub known_of : (router : ℕ) → Wants router → List (Fact RouteOffer) → Option (Held RouteOffer)
  known_of router w = known given router w.v w.off w.least w.wanted

  abbrev pub RightFor : (router : ℕ) → Wants router → Place → RouteOffer → Type 0
  RightFor router w = Right given router w.v w.off w.least

  abbrev pub SourceOf : (router : ℕ) → Way → ℕ → Place → Type 0
  SourceOf = Source net is cheap up in_ports network

  -- ---- what is held, as a list of offers

  -- it is the offer of the record of the network, if there is one
  pub found_so : (router : ℕ) (w : Wants router) (history : History) → find (λ o. is_eq (network_order o.network network)) (offers (routes_held (ports_of net router) most_routes history))
      ≡ option_map (λ x. x.offer) (known_of router w (route_facts (ports_of net router) history))
  found_so router w history =
      found (λ o. is_eq (network_order o.network network)) (routes_held (ports_of net router) most_routes history)
      ∙ ap (option_map (λ x. x.offer))
      (record-in_order route_reading network_order network_total most_routes (map (λ p. p.route_share) (ports_of net router)) network
      (records given
      router w.v w.off w.least w.wanted (route_facts (ports_of net router) history)))

  module _ (router : ℕ) (w : Wants router) (history : History) (h : Held RouteOffer) (some : known_of router w (route_facts (ports_of net router) history) ≡ Some h)
      (named : h.offer.network ≡ network) (way : way_of h.offer ≡ w.v) where
    abbrev all_held : List RouteOffer
    all_held = offers (routes_held (ports_of net router) most_routes history)

    pub found_there : find (λ o. is_eq (network_order o.network network)) all_held ≡ Some h.offer
    found_there = found_so router w history ∙ ap (option_map (λ x. x.offer)) some

    pub in_held : AnyIs (λ r. r ≡ h.offer) all_held
    in_held = find_any (λ o. is_eq (network_order o.network network)) all_held h.offer found_there

  -- ---- what is said of it, when so many ticks have begun

  module _ (begun : ℕ) where
    -- what a port sends of the network is the least way of its router, gone on
    abbrev pub Word : Place → RipEntry → Type 0
    Word from e = (u : Way) → within net up in_ports network 15 from.router ≡ Some u → u.hops ≤ 14 → IsWord (ports_of net from.router) network u from.port e

    abbrev pub Said : Place → RipEntry → Type 0
    Said from e = RouteSaid 0 0 net up foreign begun from e × Word from e

    -- a delivery for a router tells of the network, from a port
    pub record Pending (router : ℕ) (from : Place) (d : Delivery) : Type 0 where
      pub to : d.to.router ≡ router
      pub delivery : IsDelivery net d
      pub reaches : Reaches net up from d.to
      pub page : IsRipPage (Said from) (own_address (port_of net from)) (everyone (port_of net from)) d.bytes
      pub has : AnyIs (λ e. e.network ≡ network) page.page

    -- ---- what a router says

    -- all that a router holds for the network is of that way, and where it isn't on it, something is
    pub record Knows (router : ℕ) (u : Way) (routes : List RouteOffer) : Type 0 where
      pub has : AllByRecursion (HasWay (ports_of net router) network u) routes
      pub there : is_on (ports_of net router) network ≡ false → find (λ o. is_eq (network_order o.network network)) routes ≡ None → ⊥

    abbrev pub AllKnow : ℕ → List RouteOffer → Type 0
    AllKnow router routes = (u : Way) → within net up in_ports network 15 router ≡ Some u → u.hops ≤ 14 → Knows router u routes

    -- a router that holds a route to it isn't on it
    abbrev pub AllReal : ℕ → List RouteOffer → Type 0
    AllReal router routes = AllByRecursion (λ r. r.network ≡ network → is_on (ports_of net router) network ≡ false) routes

    pub all_words : (from : Place) (entries : List RipEntry)
        → ((u : Way) → within net up in_ports network 15 from.router ≡ Some u → u.hops ≤ 14 → AllByRecursion (IsWord
        (ports_of net from.router) network u from.port) entries)
        → AllByRecursion (Word from) entries
    all_words from [] all = tt
    all_words from (e ∷ entries) all = ((λ u is_u near. (all u is_u near).0), all_words from entries (λ u is_u near. (all u is_u near).1))

    module _ (router : ℕ) (u : Way) (least : within net up in_ports network 15 router ≡ Some u) (near : u.hops ≤ 14) where
      abbrev ports : List Port
      ports = ports_of net router

      few_for : (j : ℕ) → u.ticks + (port_at ports j).cost < 65535
      few_for j =
          let some = few_ticks 15 router u least (on_or_off net up in_ports network router) in
          let cost = cost_few router j in
          let hops = near in
          omega (arith, some, cost, hops)

      own_way_is : (other : ℕ) → is_up (up router) other ≡ true → (port_at ports other).network ≡ network → (u.hops ≡ 0) × (u.ticks ≡ (port_at ports other).cost)
      own_way_is other on named =
          let less = there_where_up net is cheap up in_ports network router other on in
          let here = port_on ports network other less named in
          let there = is_there net up in_ports network 15 router u least in
          let (j, on_j, same_j, way) = own_is ports (up router) network u (sym (own net up in_ports network 15 router there here) ∙ least) in
          let one = one_port ports (apart_at net is router) j other (there_where_up net is cheap up in_ports network router j on_j) less (same_j ∙ sym named) in
          (ap (λ (w : Way). w.hops) way, ap (λ (w : Way). w.ticks) way ∙ ap (λ k. (port_at ports k).cost) one)

      pub words_told : (routes : List RouteOffer) → Knows router u routes → (j : ℕ) → AllByRecursion (IsWord ports network u j) (told ports (up router) routes j)
      words_told routes knows j = told_words ports network u few_for (up router) routes own_way_is knows.has j

      pub words_news : (old routes : List RouteOffer) → Knows router u routes → AllReal router old → (j : ℕ)
          → AllByRecursion (IsWord ports network u j) (news ports old routes j)
      words_news old routes knows real j =
          news_words ports network u few_for near old routes knows.has (lasting (on_or_off net up in_ports network router)) j
        where
          lasting : OnOrOff net up in_ports network router
              → AllByRecursion (λ r. r.network ≡ network → find (λ o. is_eq (network_order o.network network)) routes ≡ None → ⊥) old
          lasting (inl on) =
              all_then (λ r. r.network ≡ network → is_on ports network ≡ false)
              (λ r. r.network ≡ network → find (λ o. is_eq (network_order o.network network)) routes ≡ None → ⊥)
              (λ r off named none. both_ways (is_on ports network) (off named) on) old real
          lasting (inr off) =
              all_of (λ r. r.network ≡ network → find (λ o. is_eq (network_order o.network network)) routes ≡ None → ⊥)
              (λ r named none. knows.there off none) old

    -- a router on the network knows, where all routes are real
    pub knows_on : (router : ℕ) (u : Way) (routes : List RouteOffer) → is_on (ports_of net router) network ≡ true → AllReal router routes → Knows router u routes
    knows_on router u routes on real = grind (arith, all_then, HasWay, both_ways)

    -- and another one, where it holds a route of its way
    pub knows_off : (router : ℕ) (w : Wants router) (history : History) (h : Held RouteOffer)
        → known_of router w (route_facts (ports_of net router) history) ≡ Some h → h.offer.network ≡ network → way_of h.offer ≡ w.v
        → Knows router w.v (offers (routes_held (ports_of net router) most_routes history))
    knows_off router w history h some named way = record { has = has; there = λ off none. nothing (sym none ∙ there) }
      where
        facts : List (Fact RouteOffer)
        facts = route_facts (ports_of net router) history

        there : find (λ o. is_eq (network_order o.network network)) (offers (routes_held (ports_of net router) most_routes history)) ≡ Some h.offer
        there = found_there router w history h some named way

        distinct : length (filter (λ x. is_eq (network_order x.offer.network network))
            (records given
            router w.v w.off w.least w.wanted (route_facts (ports_of net router) history))) ≤ 1
        distinct =
            subst (λ (n : Network). length (filter (λ x. is_eq (network_order x.offer.network n))
            (records given
            router w.v w.off w.least w.wanted (route_facts (ports_of net router) history))) ≤ 1) named
            ((kept (route_rules (ports_of net router) most_routes)
            (rules_total route_reading network_order network_total most_routes (map (λ p. p.route_share) (ports_of net router)))
            (route_facts (ports_of net router) history)).distinct h.offer)

        has : AllByRecursion (HasWay (ports_of net router) network w.v) (offers (routes_held (ports_of net router) most_routes history))
        has =
            all_offers (HasWay (ports_of net router) network w.v) (routes_held (ports_of net router) most_routes history)
            (all_in_order (HasWay (ports_of net router) network w.v) (route_rules (ports_of net router) most_routes).by_key
            (records given
            router w.v w.off w.least w.wanted (route_facts (ports_of net router) history))
            (all_then (λ x. is_eq (network_order x.offer.network network) ≡ true → x ≡ h) (λ x. HasWay (ports_of net router) network w.v x.offer)
            (λ x one is_named.
            let equal = one (equal_where_same x.offer.network.0 network.0 (ap (λ (n : Network). n.0) is_named)) in
            ap (λ (y : Held RouteOffer). way_of y.offer) equal ∙ way)
            (records given
            router w.v w.off w.least w.wanted (route_facts (ports_of net router) history))
            (only_found (λ x. is_eq (network_order x.offer.network network)) (records given
            router w.v w.off w.least w.wanted (route_facts (ports_of net router) history))
            h distinct some)))

    -- ---- a neighbour advertises it

    module _ (router : ℕ) (w : Wants router) (port : ℕ) (from : Place) (source : SourceOf router w.v port from) where
      not_there : network_of net from ≢ network
      not_there same =
          both_ways (is_on (ports_of net router) network) w.off (port_on (ports_of net router) network port source.neighbour.here (source.neighbour.network ∙ same))

      -- by its own port on the network
      pub told_own : (routes : List RouteOffer) → is_on (ports_of net from.router) network ≡ true
          → AnyIs (λ e. e.network ≡ network) (told (ports_of net from.router) (up from.router) routes from.port)
      told_own routes on =
          let ports = ports_of net from.router in
          let there = is_there net up in_ports network 15 from.router source.way source.there in
          let (j, on_j, same, way) =
          own_is ports (up from.router) network source.way (sym (own net up in_ports network 15 from.router there on) ∙ source.there) in
          let apart : (j == from.port) ≡ false = ne_eqb j from.port (λ e. not_there (ap (λ k. (port_at ports k).network) (sym e) ∙ same)) in
          told_direct ports network source.way (up from.router) routes from.port
          (any_then (λ other. (other == j) ≡ true) (λ other. ((port_at ports other).network ≡ network) × (not (other == from.port) ≡ true))
          (λ other e.
          let equal = eqb-true other j e in
          (ap (λ k. (port_at ports k).network) equal ∙ same, ap (λ k. not (k == from.port)) equal ∙ ap not apart)) (up from.router)
          (any_passes (λ k. k == j) (up from.router) on_j))

      -- its own way didn't come by that port
      pub learned_elsewhere : (second : Wants from.router) (r : RouteOffer) (place : Place) → RightFor from.router second place r → (r.port == from.port) ≡ false
      learned_elsewhere second r place right =
          let same = same_some net up in_ports network (within net up in_ports network 15 from.router) second.v source.way second.least source.there in
          let here : SourceOf from.router source.way r.port place = subst (λ (x : Way). SourceOf from.router x r.port place) same right.source in
          ne_eqb r.port from.port (elsewhere net is cheap up in_ports network router w.v port from r.port place w.off w.least source here)

      -- by its route
      pub told_learned : (second : Wants from.router) (history : History) (h : Held RouteOffer) (place : Place) → source.way.hops ≤ 14
          → known_of from.router second (route_facts (ports_of net from.router) history) ≡ Some h → RightFor from.router second place h.offer
          → AnyIs (λ e. e.network ≡ network)
          (told (ports_of net from.router) (up from.router) (offers (routes_held (ports_of net from.router) most_routes history)) from.port)
      told_learned second history h place near some right =
          let ports = ports_of net from.router in
          let same = same_some net up in_ports network (within net up in_ports network 15 from.router) second.v source.way second.least source.there in
          let named = ap (λ (r : RouteOffer). r.network) right.same in
          let way = right_way given
          from.router second.v second.off second.least place h.offer right in
          let hops = ap (λ (x : Way). x.hops) (way ∙ same) in
          let apart = learned_elsewhere second h.offer place right in
          let reached : nat_lt h.offer.hops 15 ≡ true = lt-ltb h.offer.hops 15 (omega (arith, hops, near)) in
          let told_here : is_route_told from.port h.offer ≡ true = rw (apart, reached) refl in
          told_route ports network source.way (up from.router) (offers (routes_held ports most_routes history)) from.port
          (any_then (λ r. r ≡ h.offer) (λ r. (r.network ≡ network) × (is_route_told from.port r ≡ true))
          (λ r e. (ap (λ (x : RouteOffer). x.network) e ∙ named, ap (is_route_told from.port) e ∙ told_here)) (offers (routes_held ports most_routes history))
          (in_held from.router second history h some named way))

      -- what it sends there to all waits for the router
      pub pends : (sent : List Sent) → AllByRecursion (λ s. IsBytes s.bytes) sent
          → AnyIs (Tells (ports_of net from.router) network source.way (Said from) from.port) sent
          → AnyIs (Pending router from) (flat_map (deliveries_of net from.router) sent)
      pends sent bytes any =
          any-flat_map (λ s. Tells (ports_of net from.router) network source.way (Said from) from.port s × IsBytes s.bytes) (Pending router from)
          (deliveries_of net from.router) (λ s both. one s both.0 both.1) sent
          (any_and_all (Tells (ports_of net from.router) network source.way (Said from) from.port)
          (λ s. IsBytes s.bytes) sent any bytes)
        where
          here : Place
          here = record { router = router; port = port }

          one : (s : Sent) → Tells (ports_of net from.router) network source.way (Said from) from.port s → IsBytes s.bytes
              → AnyIs (Pending router from) (deliveries_of net from.router s)
          one s tells are_bytes =
              let at_port : Place = record { router = from.router; port = s.port } in
              let is_from : at_port ≡ from = ap (λ k. record { router = from.router; port = k }) tells.port in
              any-map (λ p. p ≡ here) (Pending router from) (λ to. record { to = to; bytes = s.bytes })
              (λ p same. record {
                to = ap (λ (q : Place). q.router) same;
                delivery = record { place = subst (λ (q : Place). IsPlace net q) (sym same) source.neighbour.here; bytes = are_bytes };
                reaches = subst (λ (q : Place). Reaches net up from q) (sym same) (record {
                  other = λ e. source.neighbour.other (sym e);
                  network = source.neighbour.network;
                  on = source.neighbour.on_there;
                });
                page = tells.page;
                has = tells.has;
              })
              (delivered net at_port s.link)
              (any-filter (λ p. p ≡ here) (receives net at_port s.link)
              (λ p same. subst (λ (q : Place). receives net at_port s.link q ≡ true) (sym same)
              (subst (λ (g : Place). receives net g s.link here ≡ true) (sym is_from) (received s.link tells.link)))
              (places net) (all_places net here source.neighbour.here))
            where
              received : (link : Node) → link ≡ broadcast → receives net from link here ≡ true
              received link all =
                  let off : (router == from.router) ≡ false = ne_eqb router from.router (λ e. source.neighbour.other (sym e)) in
                  let nets : ((network_of net here).0 == (network_of net from).0) ≡ true =
                  eq-eqb (network_of net here).0 (network_of net from).0 (ap (λ (n : Network). n.0) source.neighbour.network) in
                  let every : (same_node (port_of net here).node link || same_node link broadcast) ≡ true =
                  or_right (same_node (port_of net here).node link) (same_node link broadcast) (subst (λ (l : Node). same_node l broadcast ≡ true) (sym all) refl) in
                  rw (off, nets, every) refl
