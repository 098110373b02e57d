-- A packet of a host, once the tables are right: from router to router by their least ways, and out on its network.
use Rattle.std.proofs.lemmas.Grind.{common_steps}
use Rattle.std.proofs.Common.{◌≡◌, ◌≢◌, refl, sym, ap, ap₂, ◌∙◌, subst, ℕ, zero, suc, ◌+◌, ◌<◌, ◌≤◌, ◌==◌, ◌||◌, Bool, true, false, List, [], ◌∷◌, ◌++◌, length, map, filter, flat_map, Option, None, Some, option_map, Result, Ok, Err, inl, inr, arith, append-nil, if◌then◌else◌, rules}
use Rattle.std.specs.List.{AllByRecursion}
use Rattle.std.proofs.lemmas.Bool.{cases_Bool, cases_eq, or_cases, ne_eqb, eq-eqb, eqb-true, both_ways}
use Rattle.ipx_wire.specs.Crossed.{is_among}
use Rattle.ipx_wire.specs.Forward.{forwarded}
use Rattle.ipx_wire.specs.Packet.{Parts, IsPacket, packet_of}
use Rattle.ipx_wire.specs.Piece.{IsBytes}
use Rattle.ipx_wire.specs.Write.{packet_bytes}
use Rattle.ipx_wire.specs.declared.address.Address.{Address}
use Rattle.ipx_wire.specs.declared.network.Network.{Network}
use Rattle.ipx_wire.specs.declared.node.Node.{Node}
use Rattle.ipx_wire.specs.declared.packet.PacketFault.{PacketFault}
use Rattle.ipx_router.specs.Facts.{routes_held, offers}
use Rattle.ipx_router.specs.History.{History, running, ports_up}
use Rattle.ipx_router.specs.Numbers.{default_route}
use Rattle.ipx_router.specs.Outgoing.{Way as Outway, is_own_port, port_to, route_to, serving, way_to}
use Rattle.ipx_router.specs.Port.{Port, broadcast, port_at, numbers, is_up, is_local, same_node, takes_no_route}
use Rattle.ipx_router.specs.Relays.{Sent, relayed}
use Rattle.ipx_router.specs.Why.{why, is_far}
use Rattle.ipx_router.specs.declared.route_offer.RouteOffer.{RouteOffer}
use Rattle.ipx_router.specs.declared.why.Why.{Why}
use Rattle.ipx_router.proofs.verdicts.SentOnPassesChecks.{judged, far_passes}
use Rattle.ipx_router.proofs.port_values.PortOfEachNumber.{members, one_up}
use Rattle.ipx_router.proofs.bytes.SentIsBytes.{relayed_bytes}
use Rattle.ipx_internet.specs.Delivery.{receives, delivered}
use Rattle.ipx_internet.specs.Different.{AreDifferent}
use Rattle.ipx_internet.specs.Internet.{Internet, Place, IsInternet, NodesDiffer, IsPlace, ports_of, port_of, network_of, places}
use Rattle.ipx_internet.specs.Queue.{history_of}
use Rattle.ipx_internet.specs.Run.{Run}
use Rattle.ipx_internet.specs.Traced.{routers_after}
use Rattle.ipx_internet.specs.Tree.{Router, Copy, router_now, net_of, router_at, forwards, receivers, children, levels, joined, tree_to}
use Rattle.ipx_internet.proofs.lists.EachElement.{all_then, holds_of}
use Rattle.ipx_internet.proofs.packets.SentOnOrReply.{Layouts}
use Rattle.ipx_internet.proofs.places.EachPortOnce.{places_within, places_differ}
use Rattle.ipx_internet.proofs.places.OneReceiverOfANode.{port_is, same_number, same_place, receives_is}
use Rattle.ipx_internet.proofs.trees.PropagatedIsBounded.{ports_same}
use Rattle.ipx_internet.proofs.trees.RoutersAsTreesSee.{numbers_front, joint}
use Rattle.ipx_internet.proofs.trees.RunIsALog.{router_there}
use Rattle.ipx_laws.specs.Apart.{HasRoomBeside}
use Rattle.ipx_laws.specs.Arriving.{IsOfHost, IsAllowed, IsShort, Arrives, EndsOn}
use Rattle.ipx_laws.specs.Gone.{most_ticks_gone}
use Rattle.ipx_laws.specs.Least.{Way, is_on, is_up_on, by_port, way_by, ways_within, least as least_of, neighbours, AreCheap, FifteenSuffice, most_ticks_right}
use Rattle.ipx_laws.proofs.lists.SomeElement.{number_any, found_with, found_some, AnyIs, any_then, any_and_all, the_one}
use Rattle.ipx_laws.proofs.packets.PagesAreHeard.{nodes_apart}
use Rattle.ipx_laws.proofs.records.SameSource.{same_bytes, bytes_same}
use Rattle.ipx_laws.proofs.tables.Given.{given_of}
use Rattle.ipx_laws.proofs.tables.LeastWays.{IsNeighbour, within, own, own_is, on_or_off, OnOrOff, came, is_there, at_numbers, port_on, port_up, all_places, in_neighbours}
use Rattle.ipx_laws.proofs.tables.NoRouteIsBetter.{Source}
use Rattle.ipx_laws.proofs.tables.RightWithinAMinute.{AtRest, find_none}
use Rattle.ipx_laws.proofs.tables.SaysWhatItKnows.{some_port}
use Rattle.ipx_laws.proofs.tables.TablesAreRight.{route_is, by_number}
use Rattle.ipx_laws.proofs.ticks.RealOrSoonEnded.{Endures, runs_where}

-- ---- lists

-- where one alone passes, a filter keeps that
only_passes : {X : Type 0} (test : X → Bool) (f : X) (xs : List X) → AreDifferent xs → AllByRecursion (λ x. test x ≡ true → x ≡ f) xs → AnyIs (λ x. x ≡ f) xs
    → test f ≡ true
    → filter test xs ≡ f ∷ []
only_passes test f [] differ all any passes = absurd any
only_passes test f (x ∷ xs) differ all (inl here) passes =
    let passes_x : test x ≡ true = ap test here ∙ passes in
    rw passes_x (ap₂ (λ y ys. y ∷ ys) here (none xs all.1 differ.0))
  where
    none : (ys : List _) → AllByRecursion (λ y. test y ≡ true → y ≡ f) ys → AllByRecursion (λ y. y ≢ x) ys → filter test ys ≡ []
    none [] all apart = refl
    none (y ∷ ys) all apart = elim (cases_Bool (test y)) [
      | inl e ↦ absurd (apart.0 (all.0 e ∙ sym here))
      | inr e ↦ rw e (none ys all.1 apart.1)
    ]
only_passes test f (x ∷ xs) differ all (inr behind) passes = elim (cases_Bool (test x)) [
  | inr e ↦ rw e (only_passes test f xs differ.1 all.1 behind passes)
  | inl e ↦ absurd (never xs differ.0 behind (all.0 e))
]
  where
    never : (ys : List _) → AllByRecursion (λ y. y ≢ x) ys → AnyIs (λ y. y ≡ f) ys → x ≡ f → ⊥
    never [] apart any same = any
    never (y ∷ ys) apart (inl here) same = apart.0 (here ∙ sym same)
    never (y ∷ ys) apart (inr rest) same = never ys apart.1 rest same

-- where none passes, a filter keeps nothing
none_pass : {X : Type 0} (test : X → Bool) (xs : List X) → AllByRecursion (λ x. test x ≡ false) xs → filter test xs ≡ []
none_pass test [] all = refl
none_pass test (x ∷ xs) all = let e = all.0 in rw e (none_pass test xs all.1)

-- what holds of all of a list holds of one of it
at_one : {X : Type 0} (A : X → Type 0) (x : X) (xs : List X) → AnyIs (λ y. y ≡ x) xs → AllByRecursion A xs → A x
at_one A x xs any all = grind (arith, the_one, any_and_all)

-- ---- routers as they are

mapped_numbers : {X : Type 0} (f : ℕ → X) (n : ℕ) → map f (numbers (suc n)) ≡ f 0 ∷ map (λ k. f (suc k)) (numbers n)
mapped_numbers f n = ap (map f) (numbers_front n) ∙ ap (λ xs. f 0 ∷ xs) (joint f (numbers n))

nets_same : (net : Internet) (f : ℕ → Router) → ((k : ℕ) → k < length net → (f k).ports ≡ ports_of net k) → net_of (map f (numbers (length net))) ≡ net
nets_same [] f at = refl
nets_same (ports ∷ net) f at =
    ap net_of (mapped_numbers f (length net))
    ∙ ap₂ (λ (p : List Port) (rest : Internet). p ∷ rest) (at 0 (omega arith)) (nets_same net (λ k. f (suc k)) (λ k less. at (suc k) (omega (arith, less))))

pub net_after : (net : Internet) (most_routes : ℕ) (histories : List History) → net_of (routers_after net most_routes histories) ≡ net
net_after net most_routes histories = nets_same net (λ number. router_now (ports_of net number) most_routes (history_of histories number)) (λ k less. refl)

-- ---- one receiver

module _ (net : Internet) (up : ℕ → List ℕ) (in_ports : (router : ℕ) → AllByRecursion (λ j. j < length (ports_of net router)) (up router)) (is : IsInternet net)
    (differ : NodesDiffer net) where
  pub delivered_one : (q port : ℕ) (f : Place) (link : Node) → IsNeighbour net up in_ports q port f → link ≡ (port_of net f).node
      → delivered net (record { router = q; port = port }) link ≡ f ∷ []
  delivered_one q port f link neighbour node =
      only_passes (receives net (record { router = q; port = port }) link) f (places net) (places_differ net)
      (all_then (IsPlace net) (λ x. receives net (record { router = q; port = port }) link x ≡ true → x ≡ f) one (places net) (places_within net))
      (all_places net f neighbour.place) passes
    where
      apart : same_node link broadcast ≡ false
      apart = nodes_apart link broadcast (λ e. (port_is net is f neighbour.place).node (sym node ∙ e))

      one : (x : Place) → IsPlace net x → receives net (record { router = q; port = port }) link x ≡ true → x ≡ f
      one x there e =
          let got = receives_is net (record { router = q; port = port }) link x e in
          let nets : network_of net x ≡ network_of net f = got.network ∙ neighbour.network in
          let make : List ℕ → Node = λ bytes. record { 0 = bytes } in
          let same : same_node (port_of net x).node link ≡ true = elim (or_cases (same_node (port_of net x).node link) (same_node link broadcast) got.node) [
            | inl same ↦ same
            | inr all ↦ absurd (both_ways (same_node link broadcast) apart all)
          ] in
          let nodes : (port_of net x).node ≡ (port_of net f).node = ap make (same_bytes (port_of net x).node.0 link.0 same) ∙ node in
          elim (cases_eq x.router f.router) [
            | inl r ↦ same_place net is x f r there neighbour.place nets
            | inr off ↦ absurd (differ x f there neighbour.place off nets nodes)
          ]

      passes : receives net (record { router = q; port = port }) link f ≡ true
      passes =
          let off : (f.router == q) ≡ false = ne_eqb f.router q neighbour.other in
          let nets : ((network_of net f).0 == (network_of net (record { router = q; port = port })).0) ≡ true =
          eq-eqb (network_of net f).0 (network_of net (record { router = q; port = port })).0 (ap (λ (n : Network). n.0) (sym neighbour.network)) in
          let every : (same_node (port_of net f).node link || same_node link broadcast) ≡ true = elim (cases_Bool (same_node (port_of net f).node link)) [
            | inl e ↦ rw e refl
            | inr e ↦ absurd (both_ways (same_node (port_of net f).node link) e (subst (λ (l : Node). same_node (port_of net f).node l ≡ true) (sym node)
                (bytes_same (port_of net f).node.0)))
          ] in
          rw (off, nets, every) refl

module _ (net : Internet) (laws : Layouts) (is : IsInternet net) (differ : NodesDiffer net) (cheap : AreCheap net) (up : ℕ → List ℕ)
    (in_ports : (router : ℕ) → AllByRecursion (λ j. j < length (ports_of net router)) (up router)) (most_routes most_services : ℕ) (foreign : List Network)
    (room : HasRoomBeside net most_routes foreign) (to : Address) (suffice : FifteenSuffice net up to.network) (unlisted : is_among to.network foreign ≡ false)
    (ticks : ℕ) (run : Run) (rest : AtRest (given_of net laws is differ cheap up in_ports most_routes most_services foreign room to.network suffice unlisted)
    ticks run) (long : most_ticks_gone ≤ ticks) where
  abbrev routers : List Router
  routers = routers_after net most_routes run.histories

  -- ---- one router

  module _ (q : ℕ) (inside : q < length net) where
    abbrev ports : List Port
    ports = ports_of net q

    abbrev history : History
    history = history_of run.histories q

    abbrev ups : List ℕ
    ups = ports_up ports history

    abbrev routes : List RouteOffer
    routes = offers (routes_held ports most_routes history)

    endures : Endures 0 0 net up foreign most_routes q ticks history
    endures = rest.rests.routers q inside

    ups_in : AllByRecursion (λ j. j < length ports) ups
    ups_in = subst (λ (us : List ℕ). AllByRecursion (λ j. j < length ports) us) (sym endures.ups) (in_ports q)

    it_is_up : (j : ℕ) → is_up (up q) j ≡ true → is_up ups j ≡ true
    it_is_up j on = subst (λ (us : List ℕ). is_up us j ≡ true) (sym endures.ups) on

    module _ (number : ℕ) (here : number < length ports) (on : is_up (up q) number ≡ true) (away : (port_at ports number).network ≢ to.network) (v : Way)
        (least : within net up in_ports to.network 15 q ≡ Some v)
        (bytes : List ℕ) (are_bytes : IsBytes bytes) (p : Parts) (is_packet : IsPacket bytes p) (same : p.header.destination ≡ to) (of_host : IsOfHost net p)
        (few_control : p.header.control < 16) where
      other_network : is_local (port_at ports number) p.header.destination.network ≡ false
      other_network =
          let (place, there, named) = some_port (given_of net laws is differ cheap up in_ports most_routes most_services foreign room to.network suffice unlisted)
          15 q v least (on_or_off net up in_ports to.network q) in
          let some = (port_is net is place there).some_network in
          let number_is = ap (λ (n : Network). n.0) named in
          let one : (to.network.0 == 0) ≡ false = ne_eqb to.network.0 0 (λ e. omega (arith, e, some, number_is)) in
          let two : (to.network.0 == (port_at ports number).network.0) ≡ false =
          ne_eqb to.network.0 (port_at ports number).network.0 (λ e. away (same_number (port_at ports number).network to.network (sym e))) in
          subst (λ (a : Address). is_local (port_at ports number) a.network ≡ false) (sym same) (rw (one, two) refl)

      far : is_far (port_at ports number) p.header ≡ true
      far = grind (arith, other_network)

      sent_by : Option Why → Result Parts PacketFault → List Sent
      sent_by o r = elim o [ Some reason ↦ [] | None ↦ elim r [ Ok x ↦ relayed ports ups routes number x | Err fault ↦ [] ] ]

      module _ (way : Outway) (routed : way_to ports ups routes to ≡ Some way) (leaves : way.port < length ports) (leaves_up : is_up (up q) way.port ≡ true)
          (short : p.header.length ≤ (port_at ports way.port).longest) where
        abbrev it : Sent
        it = record { port = way.port; link = way.link; bytes = packet_bytes (forwarded p) }

        routed_so : way_to ports ups routes p.header.destination ≡ Some way
        routed_so = ap (way_to ports ups routes) same ∙ routed

        read : packet_of bytes ≡ Ok p
        read = (laws.readings.packet_read bytes p are_bytes).1 is_packet

        passes : why ports ups routes true number bytes ≡ None
        passes =
            ap (judged ports ups routes (port_at ports number) number) read
            ∙ far_passes ports ups routes (port_at ports number) number p (it_is_up number on) way (of_host.no_echo
            (record { router = q; port = number }) here) of_host.source far
            few_control (of_host.elsewhere q) routed_so short

        relays : relayed ports ups routes number p ≡ it ∷ []
        relays = grind (arith, other_network, routed_so)

        runs : running history ≡ true
        runs = search (rules, runs_where, endures)

        pub sends_one : (c : Copy) → c.to ≡ record { router = q; port = number } → c.bytes ≡ bytes → forwards routers c ≡ it ∷ []
        unfolding sent_by
        sends_one c given from = grind (arith, at_numbers, sent_by, runs, passes, read, relays)

        pub written : IsBytes (packet_bytes (forwarded p))
        written =
            relayed_bytes ports ups routes number bytes it are_bytes (inl (record {
              packet = p;
              is = is_packet;
              far = far;
              few = few_control;
              elsewhere = of_host.elsewhere q;
              way = routed_so;
              leaves = record {
                comes_up = it_is_up number on;
                leaves_up = it_is_up way.port leaves_up;
                no_echo = of_host.no_echo (record { router = q; port = number }) here;
                source = of_host.source;
                short = short;
              };
              written = refl;
            }))

        pub read_again : IsPacket (packet_bytes (forwarded p)) (forwarded p)
        read_again =
            subst (λ bs. IsPacket bs (forwarded p)) (append-nil (packet_bytes (forwarded p)))
            (laws.again.forwarded_again bytes p [] is_packet (let few_now = few_control in omega (arith, few_now)))

    -- ---- the way out

    pub way_by_route : is_on ports to.network ≡ false → (r : RouteOffer) → route_to routes to.network.0 ≡ Some r
        → way_to ports ups routes to ≡ Some (record { port = r.port; link = r.node })
    way_by_route off r held = ap (λ o. out o (serving ports routes to.network)) none ∙ ap (λ o. out None (served o)) held
      where
        served : Option RouteOffer → Option RouteOffer
        served o = elim o [ Some route ↦ Some route | None ↦ if takes_no_route ports to.network then None else route_to routes default_route ]

        out : Option ℕ → Option RouteOffer → Option Outway
        out o s = elim o [ Some j ↦ Some (record { port = j; link = to.node }) | None ↦ option_map (λ r. record { port = r.port; link = r.node }) s ]

        none : port_to ports ups to.network ≡ None
        none =
            find_none (λ j. (port_at ports j).network.0 == to.network.0) ups
            (all_then (λ j. j < length ports) (λ j. ((port_at ports j).network.0 == to.network.0) ≡ false)
            (λ j less. ne_eqb (port_at ports j).network.0 to.network.0 (λ e. both_ways (is_on ports to.network) off
            (port_on ports to.network j less (same_number (port_at ports j).network to.network e)))) ups ups_in)

    pub way_direct : (v : Way) → within net up in_ports to.network 15 q ≡ Some v → is_on ports to.network ≡ true
        → (j : ℕ) × (is_up (up q) j ≡ true) × ((port_at ports j).network ≡ to.network) × (way_to ports ups routes to ≡ Some (record { port = j; link = to.node }))
    way_direct v least on = by (port_to ports ups to.network) refl
      where
        out : Option ℕ → Option Outway
        out o = elim o [
          | Some j ↦ Some (record { port = j; link = to.node })
          | None ↦ option_map (λ r. record { port = r.port; link = r.node }) (serving ports routes to.network)
        ]

        by : (o : Option ℕ) → port_to ports ups to.network ≡ o
            → (j : ℕ) × (is_up (up q) j ≡ true) × ((port_at ports j).network ≡ to.network) × (way_to ports ups routes to ≡ Some
            (record { port = j; link = to.node }))
        by (Some j) e =
            let found = found_with (λ k. is_up ups k ≡ true) (λ k. (port_at ports k).network.0 == to.network.0) ups j (members ups) e in (
              j,
              subst (λ (us : List ℕ). is_up us j ≡ true) endures.ups found.0,
              same_number (port_at ports j).network to.network (eqb-true (port_at ports j).network.0 to.network.0 found.1),
              ap out e,
            )
        by None e =
            let (j, on_j, named, way) = own_is ports (up q) to.network v (sym (own net up in_ports to.network 15 q inside on) ∙ least) in
            absurd (found_some (λ k. (port_at ports k).network.0 == to.network.0) ups
            (subst (λ (us : List ℕ). AnyIs (λ k. ((port_at ports k).network.0 == to.network.0) ≡ true) us) (sym endures.ups)
            (any_then (λ k. k ≡ j) (λ k. ((port_at ports k).network.0 == to.network.0) ≡ true)
            (λ k same. ap (λ i. (port_at ports i).network.0 == to.network.0) same ∙ eq-eqb (port_at ports j).network.0 to.network.0 (ap (λ
            (n : Network). n.0) named))
            (up q) (number_any j (up q) on_j))) e)

  -- ---- the ports on the way

  abbrev Allowed : ℕ → ℕ → Network → Type 0
  Allowed size q network = IsAllowed net up size q network

  allowed_at : (size q j : ℕ) (network : Network) → Allowed size q network → is_up (up q) j ≡ true → (port_at (ports_of net q) j).network ≡ network
      → size ≤ (port_at (ports_of net q) j).longest
  allowed_at size q j network all on = grind (arith, holds_of)

  allowed_by : (size hops q port : ℕ) (v : Way) (from : Place) → Source net is cheap up in_ports to.network q v port from
      → within net up in_ports to.network 15 q ≡ Some v → IsShort net up size to.network (suc hops) q
      → Allowed size q (network_of net from) × IsShort net up size to.network hops from.router
  allowed_by size hops q port v from source least short =
      let gone_on : way_by net (ways_within net up 15 to.network) from ≡ least_of net up q to.network =
      ap (option_map (by_port (port_of net from).cost)) source.there ∙ ap Some (sym source.by) ∙ sym least in
      at_one (λ f. way_by net (ways_within net up 15 to.network) f ≡ least_of net up q to.network
      → Allowed size q (network_of net f) × IsShort net up size to.network hops f.router)
      from (neighbours net up q) (in_neighbours net up in_ports q port from source.neighbour) short gone_on

  -- ---- from router to router

  no_hop_on : (q : ℕ) (v : Way) → within net up in_ports to.network 15 q ≡ Some v → is_on (ports_of net q) to.network ≡ true → v.hops ≡ 0
  no_hop_on q v e on =
      let there = is_there net up in_ports to.network 15 q v e in
      let (j, on_j, same, way) = own_is (ports_of net q) (up q) to.network v (sym (own net up in_ports to.network 15 q there on) ∙ e) in
      ap (λ (w : Way). w.hops) way

  pub goes : (hops q port number : ℕ) (parent : Option ℕ) (bytes : List ℕ) (p : Parts) (v : Way) → port < length (ports_of net q) → is_up (up q) port ≡ true
      → (port_at (ports_of net q) port).network ≢ to.network → IsBytes bytes → IsPacket bytes p → p.header.destination ≡ to → IsOfHost net p
      → IsShort net up p.header.length to.network hops q → p.header.control + hops < 16 → within net up in_ports to.network 15 q ≡ Some v → v.hops ≡ hops
      → (1 ≤ hops → most_ticks_right ≤ ticks)
      → Arrives routers to p.header.control hops number (record { parent = parent; to = record { router = q; port = port }; bytes = bytes })
  goes zero q port number parent bytes p v here on_port_here away are_bytes is_packet same of_host short few_control least none sure =
      by (on_or_off net up in_ports to.network q)
    where
      by : OnOrOff net up in_ports to.network q → Arrives routers to p.header.control 0 number (record { parent = parent; to = record { router = q; port = port }; bytes = bytes })
      by (inr off) =
          let c = came net up in_ports to.network 14 q v off least in
          let h = ap (λ (w : Way). w.hops) c.by in
          absurd (omega (arith, h, none))
      by (inl on) =
          let inside = router_there net q port here in
          let (j, on_j, named, routed) = way_direct q inside v least on in
          let out : Outway = record { port = j; link = to.node } in
          let now = at_numbers (λ k. router_now (ports_of net k) most_routes (history_of run.histories k)) (length net) q (router_at [] 0) inside in (
            record { port = j; link = to.node; bytes = packet_bytes (forwarded p) },
            (p, is_packet, refl, omega (arith, few_control), refl),
            sends_one q inside port here on_port_here away v least bytes are_bytes p is_packet same of_host (omega (arith, few_control)) out routed (one_up
                (λ k. k < length (ports_of net q)) (up q) j (in_ports q) on_j) on_j
                (allowed_at p.header.length q j to.network short on_j named) (record { parent = parent; to = record { router = q; port = port }; bytes = bytes }) refl refl,
            ap (λ (r : Router). is_up r.up j) now ∙ it_is_up q inside j on_j,
            ap (λ (r : Router). (port_at r.ports j).network) now ∙ named,
            refl,
          )
  goes (suc hops) q port number parent bytes p v here on_port_here away are_bytes is_packet same of_host short few_control least some sure =
      by (on_or_off net up in_ports to.network q)
      (λ f u neighbour on_f elsewhere written read_again short_on is_u hops_u. goes hops f.router f.port (number + 1) (Some number) (packet_bytes (forwarded p))
      (forwarded p) u neighbour on_f elsewhere written
      read_again same (record { for_one = of_host.for_one; source = of_host.source; no_echo = of_host.no_echo; elsewhere = of_host.elsewhere })
      short_on (omega (arith, few_control)) is_u hops_u (λ some_hop. sure (omega arith)))
    where
      by : OnOrOff net up in_ports to.network q
          → ((f : Place) (u : Way) → IsPlace net f → is_up (up f.router) f.port ≡ true → network_of net f ≢ to.network → IsBytes (packet_bytes (forwarded p))
          → IsPacket (packet_bytes (forwarded p)) (forwarded p)
          → IsShort net up p.header.length to.network hops f.router → within net up in_ports to.network 15 f.router ≡ Some u → u.hops ≡ hops
          → Arrives routers to (p.header.control + 1) hops (number + 1) (record { parent = Some number; to = f; bytes = packet_bytes (forwarded p) }))
          → Arrives routers to p.header.control (suc hops) number (record { parent = parent; to = record { router = q; port = port }; bytes = bytes })
      by (inl on) deeper =
          let none = no_hop_on q v least on in
          absurd (omega (arith, none, some))
      by (inr off) deeper =
          let inside = router_there net q port here in
          let enough : most_ticks_right ≤ ticks = sure (omega arith) in
          let has = route_is (given_of net laws is differ cheap up in_ports most_routes most_services foreign room to.network suffice unlisted)
          ticks run rest long q inside v off least enough in
          let held = by_number (given_of net laws is differ cheap up in_ports most_routes most_services foreign room to.network suffice unlisted)
          ticks run rest long q inside ∙ has.held in
          let out : Outway = record { port = has.route.port; link = has.route.node } in
          let routed = way_by_route q inside off has.route held in
          let leaves = has.source.neighbour.here in
          let allowed = allowed_by p.header.length hops q has.route.port v has.from has.source least short in
          let fits = allowed_at p.header.length q has.route.port (network_of net has.from) allowed.0 has.source.neighbour.on_here has.source.neighbour.network in
          let few_now : p.header.control < 16 = omega (arith, few_control) in
          let c : Copy = record { parent = parent; to = record { router = q; port = port }; bytes = bytes } in
          let it : Sent = record { port = has.route.port; link = has.route.node; bytes = packet_bytes (forwarded p) } in
          let one = sends_one q inside port here on_port_here away v least bytes are_bytes p is_packet same of_host few_now out routed leaves has.source.neighbour.on_here fits c refl refl in
          let there = delivered_one net up in_ports is differ q has.route.port has.from has.route.node has.source.neighbour has.node in
          let next : Copy = record { parent = Some number; to = has.from; bytes = packet_bytes (forwarded p) } in
          let hops_by = ap (λ (w : Way). w.hops) has.source.by in (
            next,
            (p, is_packet, refl, few_now, refl),
            ap (flat_map (receivers routers number c)) one ∙ append-nil (receivers routers number c it)
                ∙ ap (λ (n : Internet). map (λ x. record { parent = Some number; to = x; bytes = packet_bytes (forwarded p) })
                (delivered n (record { router = q; port = has.route.port }) has.route.node)) (net_after net most_routes run.histories)
                ∙ ap (map (λ x. record { parent = Some number; to = x; bytes = packet_bytes (forwarded p) })) there,
            deeper has.from has.source.way has.source.neighbour.place has.source.neighbour.on_there
                (λ named. both_ways (is_on (ports_of net q) to.network) off (port_on (ports_of net q) to.network has.route.port leaves
                (has.source.neighbour.network ∙ named)))
                (written q inside port here on_port_here away v least bytes are_bytes p is_packet same of_host few_now out routed leaves has.source.neighbour.on_here fits)
                (read_again q inside port here on_port_here away v least bytes are_bytes p is_packet same of_host few_now out routed leaves has.source.neighbour.on_here fits)
                allowed.1 has.source.there (omega (arith, hops_by, some)),
          )

-- ---- nobody behind the last router

own_port : (ports : List Port) (j : ℕ) (to : Address) → j < length ports → (port_at ports j).network ≡ to.network
    → same_node (port_at ports j).node to.node ≡ true → is_own_port ports to ≡ true
own_port ports j to less nets node = grind (arith, common_steps, eq-eqb)

-- no port receives what is for one node, which is no port's
nobody : (net : Internet) (to : Address) → ((router : ℕ) → is_own_port (ports_of net router) to ≡ false) → to.node ≢ broadcast → (from : Place)
    → network_of net from ≡ to.network → delivered net from to.node ≡ []
nobody net to elsewhere one from named =
    none_pass (receives net from to.node) (places net)
    (all_then (IsPlace net) (λ x. receives net from to.node x ≡ false) off (places net) (places_within net))
  where
    off : (x : Place) → IsPlace net x → receives net from to.node x ≡ false
    off x there = elim (cases_Bool (receives net from to.node x)) [
      | inr e ↦ e
      | inl e ↦
          let got = receives_is net from to.node x e in
          let node : same_node (port_of net x).node to.node ≡ true = elim (or_cases (same_node (port_of net x).node to.node) (same_node to.node broadcast) got.node) [
            | inl same ↦ same
            | inr all ↦ absurd (both_ways (same_node to.node broadcast) (nodes_apart to.node broadcast one) all)
          ] in
          absurd (both_ways (is_own_port (ports_of net x.router) to) (elsewhere x.router)
          (own_port (ports_of net x.router) x.port to there (got.network ∙ named) node))
    ]

abbrev Nobody : Internet → Address → Type 0
Nobody net to = (from : Place) → network_of net from ≡ to.network → delivered net from to.node ≡ []

pub nobody_after : (net : Internet) (most_routes : ℕ) (histories : List History) (p : Parts) → IsOfHost net p → p.header.destination.node ≢ broadcast
    → Nobody (net_of (routers_after net most_routes histories)) p.header.destination
nobody_after net most_routes histories p of_host one = grind (arith, net_after, nobody)

-- ---- its tree

pub one_each : (all : List Router) (to : Address) (control hops number : ℕ) (c : Copy) → Arrives all to control hops number c
    → length (joined (levels all (suc hops) number (c ∷ []))) ≡ suc hops
one_each all to control zero number c arrives = refl
one_each all to control (suc hops) number c arrives =
    let next = arrives.0 in
    let rest = one_each all to (control + 1) hops (number + 1) next arrives.3 in
    ap (λ cs. suc (length (joined (levels all (suc hops) (number + 1) (cs ++ []))))) arrives.2 ∙ ap suc rest

-- where nobody receives what leaves at last, there is nothing behind
behind : (all : List Router) (to : Address) → Nobody (net_of all) to → (control hops number : ℕ) (c : Copy) → Arrives all to control hops number c
    → joined (levels all (suc (suc hops)) number (c ∷ [])) ≡ joined (levels all (suc hops) number (c ∷ []))
behind all to nobody control zero number c arrives =
    let (s, through, one, on, named, node) = arrives in
    let from : Place = record { router = c.to.router; port = s.port } in
    let copy : Place → Copy = λ x. record { parent = Some number; to = x; bytes = s.bytes } in
    let there : network_of (net_of all) from ≡ to.network =
    ap (λ (ports : List Port). (port_at ports s.port).network) (ports_same all c.to.router) ∙ named in
    let none : receivers all number c s ≡ [] =
    ap (λ (link : Node). map copy (delivered (net_of all) from link)) node ∙ ap (map copy) (nobody from there) in
    let childless : children all number c ≡ [] = ap (flat_map (receivers all number c)) one ∙ append-nil (receivers all number c s) ∙ none in
    ap (λ (cs : List Copy). c ∷ ((cs ++ []) ++ [])) childless
behind all to nobody control (suc hops) number c arrives =
    let (next, through, one, further) = arrives in
    let rest = behind all to nobody (control + 1) hops (number + 1) next further in
    ap (λ (cs : List Copy). c ∷ joined (levels all (suc (suc hops)) (number + 1) (cs ++ []))) one
    ∙ ap (λ (cs : List Copy). c ∷ cs) rest
    ∙ sym (ap (λ (cs : List Copy). c ∷ joined (levels all (suc hops) (number + 1) (cs ++ []))) one)

-- the receptions on the way, and the last one
on_way : (all : List Router) (to : Address) (control hops number : ℕ) (c : Copy) → Arrives all to control hops number c
    → (before : List Copy) × (last : Copy) × (joined (levels all (suc hops) number (c ∷ [])) ≡ before ++ last ∷ []) × (length before ≡ hops)
    × (is_up_on (router_at all last.to.router).ports (router_at all last.to.router).up to.network ≡ true)
on_way all to control zero number c arrives =
    let (s, through, one, on, named, node) = arrives in
    let r = router_at all c.to.router in
    ([], c, refl, refl, port_up r.ports r.up to.network s.port on named)
on_way all to control (suc hops) number c arrives =
    let (next, through, one, further) = arrives in
    let (before, last, same, count, there) = on_way all to (control + 1) hops (number + 1) next further in (
      c ∷ before,
      last,
      ap (λ (cs : List Copy). c ∷ joined (levels all (suc hops) (number + 1) (cs ++ []))) one ∙ ap (λ (cs : List Copy). c ∷ cs) same,
      ap suc count,
      there,
    )

pub ends : (all : List Router) (to : Address) → Nobody (net_of all) to → (control hops : ℕ) (c : Copy) → Arrives all to control hops 0 c
    → EndsOn all to.network hops c
ends all to nobody control hops c arrives =
    let (before, last, same, count, there) = on_way all to control hops 0 c arrives in
    let first : suc hops ≡ hops + 1 = omega arith in
    let next : suc (suc hops) ≡ hops + 1 + 1 = omega arith in
    record {
      before = before;
      last = last;
      tree = record {
        depth = hops + 1;
        all = sym same ∙ ap (λ (n : ℕ). tree_to all n c) first;
        whole = sym same ∙ sym (behind all to nobody control hops 0 c arrives) ∙ ap (λ (n : ℕ). tree_to all n c) next;
      };
      count = count;
      there = there;
    }
