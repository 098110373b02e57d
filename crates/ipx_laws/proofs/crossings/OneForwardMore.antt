-- One forward more on the path of a reception: what it is sent on to are just the ports to which the path goes on.
use Rattle.std.proofs.Common.{◌≡◌, ◌≢◌, refl, sym, ap, ◌∙◌, subst, ℕ, ◌+◌, ◌<◌, ◌==◌, ◌&&◌, true, false, List, [], ◌∷◌, ◌++◌, length, map, Some, inl, inr, arith, append_assoc, append-nil, length-append}
use Rattle.std.specs.List.{AllByRecursion}
use Rattle.std.proofs.lemmas.Bool.{and_parts, not-true, both_ways, eqb-false, ne_eqb, or_parts, or_from, cases_lt}
use Rattle.std.proofs.lemmas.List.{map-append, get_or_past}
use Rattle.ipx_wire.specs.Crossed.{IsNetwork, IsCrossed, is_among}
use Rattle.ipx_wire.specs.Forward.{propagated}
use Rattle.ipx_wire.specs.Numbers.{crossed_places}
use Rattle.ipx_wire.specs.Packet.{Parts, IsPacket}
use Rattle.ipx_wire.specs.Piece.{IsBytes}
use Rattle.ipx_wire.specs.Write.{packet_bytes}
use Rattle.ipx_wire.specs.declared.address.Address.{Address}
use Rattle.ipx_wire.specs.declared.network.Network.{Network}
use Rattle.ipx_wire.specs.declared.node.Node.{Node}
use Rattle.ipx_router.specs.Packets.{IsRelayed}
use Rattle.ipx_router.specs.Port.{Port, AreApart, broadcast, port_at, is_up, same_node, is_local}
use Rattle.ipx_router.specs.Relays.{Sent, MayLeave, IsPropagated}
use Rattle.ipx_router.specs.Why.{is_propagated, is_own_echo}
use Rattle.ipx_internet.specs.Delivery.{receives, delivered}
use Rattle.ipx_internet.specs.Different.{AreDifferent}
use Rattle.ipx_internet.specs.Internet.{Internet, Place, ports_of, port_of, network_of, IsPlace, IsInternet, places}
use Rattle.ipx_internet.specs.Tree.{Router, IsRouter, Copy, net_of, router_at, root, forwards, receivers, children}
use Rattle.ipx_internet.proofs.lists.EachElement.{all-append, all-map, all-flat_map, all_listed, holds_of, none_joined, none_of_both}
use Rattle.ipx_internet.proofs.lists.HowManyPass.{IsIn}
use Rattle.ipx_internet.proofs.packets.SentOnIsBytes.{SentOn, propagated_bytes}
use Rattle.ipx_internet.proofs.packets.SentOnReadAgain.{Wire, read_propagated}
use Rattle.ipx_internet.proofs.places.EachPortOnce.{delivered_within, delivered_differ}
use Rattle.ipx_internet.proofs.places.FewOnANetwork.{place_in}
use Rattle.ipx_internet.proofs.places.OneReceiverOfANode.{one_port, apart_at, same_number, port_is, receives_is}
use Rattle.ipx_internet.proofs.trees.NextLevelIsBounded.{Relaying, sends, is_forward, is_sent_on}
use Rattle.ipx_internet.proofs.trees.PropagatedGoesElsewhere.{place_network}
use Rattle.ipx_internet.proofs.trees.PropagatedIsBounded.{ports_same, router_is}
use Rattle.ipx_laws.specs.Crossings.{end_of, Crosses, Leads, IsForwardedAlong, IsCrossing}
use Rattle.ipx_laws.proofs.crossings.PlacesOfAPath.{passed, whole, end_more, passed_more, leads_more, leads_less}
use Rattle.ipx_laws.proofs.lists.EachOnce.{all_parts, differ_more, differ_less, differ_by, differ_pieces, map_back, one_at}
use Rattle.ipx_laws.proofs.lists.SomeElement.{AnyIs, any-filter, any-map, any-flat_map}

-- ---- networks among others

-- a network that isn't among others is none of them
none_same : (network : Network) (networks : List Network) → is_among network networks ≡ false → AllByRecursion (λ n. n ≢ network) networks
none_same network [] new = tt
none_same network (n ∷ networks) new =
    let (here, behind) = or_parts (n.0 == network.0) (is_among network networks) new in
    ((λ e. eqb-false n.0 network.0 here (ap (λ (m : Network). m.0) e)), none_same network networks behind)

same_none : (network : Network) (networks : List Network) → AllByRecursion (λ n. n ≢ network) networks → is_among network networks ≡ false
same_none network [] others = refl
same_none network (n ∷ networks) others =
    or_from (n.0 == network.0) (is_among network networks) (ne_eqb n.0 network.0 (λ e. others.0 (same_number n network e))) (same_none network networks others.1)

leads_of : {routers : List Router} {p : Parts} {from : Place} {path : List Place} → IsCrossing routers p from path → Leads routers p.header from path
leads_of {routers} {p} {from} (inl e) = subst (λ (places : List Place). Leads routers p.header from places) (sym e) tt
leads_of (inr on) = on.leads

-- what is received is received by a port that there is: one that there isn't is on network 0, which is no port's
receiver_there : {net : Internet} → IsInternet net → (sender : Place) (link : Node) (to : Place) → IsPlace net sender → receives net sender link to ≡ true
    → IsPlace net to
receiver_there {net} made sender link to there received = elim (cases_lt to.port (length (ports_of net to.router))) [
  | inl within ↦ within
  | inr past ↦
      let same = ap (λ (n : Network). n.0) (receives_is net sender link to received).network in
      let none : (network_of net to).0 ≡ 0 = ap (λ (port : Port). port.network.0) (get_or_past (ports_of net to.router) to.port (port_at [] 0) past) in
      let some = (port_is net made sender there).some_network in
      absurd (omega (arith, same, none, some))
]

among : (xs : List Place) (x : Place) → IsIn x xs → AnyIs (λ y. y ≡ x) xs
among [] x there = there
among (y ∷ xs) x (inl e) = inl e
among (y ∷ xs) x (inr behind) = inr (among xs x behind)

-- how a packet for all networks is sent on
pub record SpreadBy (r : Router) (number : ℕ) (q : Parts) (s : Sent) : Type 0 where
  pub networks : List Network
  pub crossed : IsCrossed q.header.control q.payload networks
  pub other : s.port ≢ number
  pub new_here : is_among (port_at r.ports number).network networks ≡ false
  pub new_there : is_among (port_at r.ports s.port).network networks ≡ false
  pub link : s.link ≡ broadcast
  pub leaves : MayLeave r.ports r.up number q s.port
  pub written : s.bytes ≡ packet_bytes (propagated (port_at r.ports number).network (port_at r.ports s.port).network q)

module _ (w : Wire) (laws : Relaying) (over : SentOn) (routers : List Router) (made : IsInternet (net_of routers)) (right : AllByRecursion IsRouter routers)
    (p : Parts) (from : Place) where
  abbrev net : Internet
  net = net_of routers

  abbrev network_at : Place → Network
  network_at place = network_of net place

  -- the networks that a path goes through before its last
  abbrev left_behind : List Place → List Network
  left_behind path = map network_at (passed from path)

  -- a reception that has that path: its packet is the one that came first, but for its list of networks and what counts them
  pub record IsAlong (path : List Place) (c : Copy) : Type 0 where
    pub packet : Parts
    pub bytes : IsBytes c.bytes
    pub is : IsPacket c.bytes packet
    pub all : is_propagated packet.header ≡ true
    pub to : c.to ≡ end_of from path
    pub control : packet.header.control ≡ p.header.control + length path
    pub source : packet.header.source ≡ p.header.source
    pub size : packet.header.length ≡ p.header.length
    pub crossed : (networks : List Network) → IsCrossed p.header.control p.payload networks → packet.header.control < crossed_places
        → IsCrossed packet.header.control packet.payload (networks ++ left_behind path)
    pub lists : (networks : List Network) → IsCrossed packet.header.control packet.payload networks
        → (first : List Network) × IsCrossed p.header.control p.payload first
    pub way : IsCrossing routers p from path

  pub begins : (bytes : List ℕ) → IsBytes bytes → IsPacket bytes p → is_propagated p.header ≡ true → IsAlong [] (root from bytes)
  begins bytes are is all = record {
    packet = p;
    bytes = are;
    is = is;
    all = all;
    to = refl;
    control = omega arith;
    source = refl;
    size = refl;
    crossed = λ networks crossed few. subst (λ (ns : List Network). IsCrossed p.header.control p.payload ns) (sym (append-nil networks)) crossed;
    lists = λ networks crossed. (networks, crossed);
    way = inl refl;
  }

  module _ (path : List Place) (c : Copy) (along : IsAlong path c) where
    abbrev q : Parts
    q = along.packet

    abbrev r : Router
    r = router_at routers c.to.router

    abbrev of_r : IsRouter r
    of_r = router_is routers right c.to.router

    -- the port at a place of that router
    abbrev out_at : ℕ → Place
    out_at number = record { router = c.to.router; port = number }

    ports_are : (number : ℕ) → port_of net (out_at number) ≡ port_at r.ports number
    ports_are number = ap (λ (ports : List Port). port_at ports number) (ports_same routers c.to.router)

    abbrev came : Network
    came = (port_at r.ports c.to.port).network

    came_is : network_at (end_of from path) ≡ came
    came_is = ap network_at (sym along.to) ∙ ap (λ (port : Port). port.network) (ports_are c.to.port)

    -- ---- what is sent on

    spread_by : (s : Sent) → IsRelayed r.ports r.up r.routes c.to.port c.bytes s → SpreadBy r c.to.port q s
    spread_by s relayed = elim relayed [
      | inr f ↦
          let P : Parts → Type 0 = λ q. SpreadBy r c.to.port q s in
          subst P (w.one_packet c.bytes f.packet q f.is along.is)
          (record {
            networks = f.networks;
            crossed = f.crossed;
            other = f.other;
            new_here = f.new_here;
            new_there = f.new_there;
            link = f.link;
            leaves = f.leaves;
            written = f.written;
          })
      | inl f ↦
          let P : Parts → Type 0 = λ q. is_propagated q.header ≡ false in
          let one = not-true (is_propagated f.packet.header) (and_parts _ _ f.far).0 in
          absurd (both_ways (is_propagated q.header) (subst P (w.one_packet c.bytes f.packet q f.is along.is) one) along.all)
    ]

    within : (number : ℕ) → is_up r.up number ≡ true → number < length r.ports
    within number up = holds_of (λ j. j < length r.ports) number r.up of_r.within up

    place_there : (number : ℕ) → is_up r.up number ≡ true → IsPlace net (out_at number)
    place_there number up = subst (λ (ports : List Port). number < length ports) (sym (ports_same routers c.to.router)) (within number up)

    apart : AreApart r.ports
    apart = subst (λ (ports : List Port). AreApart ports) (ports_same routers c.to.router) (apart_at net made c.to.router)

    -- another port is on another network
    elsewhere : (number : ℕ) → number ≢ c.to.port → is_up r.up number ≡ true → is_up r.up c.to.port ≡ true → came ≢ (port_at r.ports number).network
    elsewhere number other up here same =
        other (one_port r.ports apart number c.to.port (within number up) (within c.to.port here) (sym same))

    -- every forward is such
    sent : AllByRecursion (λ s. (r.running ≡ true) × SpreadBy r c.to.port q s) (forwards routers c)
    sent =
        all_listed (λ s. (r.running ≡ true) × SpreadBy r c.to.port q s) (forwards routers c)
        (λ k s there. let (runs, relayed) = is_forward laws r of_r c.to.port c.bytes s along.bytes k there in (runs, spread_by s relayed))

    left_more : (to : Place) → left_behind (path ++ to ∷ []) ≡ left_behind path ++ came ∷ []
    left_more to =
        ap (λ (places : List Place). map network_at places) (passed_more from path to)
        ∙ map-append network_at (passed from path) (end_of from path ∷ [])
        ∙ ap (λ (n : Network). left_behind path ++ n ∷ []) came_is

    -- the networks that the path visits
    visited_are : map network_at (from ∷ path) ≡ left_behind path ++ came ∷ []
    visited_are =
        ap (λ (places : List Place). map network_at places) (whole from path)
        ∙ map-append network_at (passed from path) (end_of from path ∷ [])
        ∙ ap (λ (n : Network). left_behind path ++ n ∷ []) came_is

    visited_differ : AreDifferent (map network_at (from ∷ path))
    visited_differ = elim along.way [
      | inl e ↦ subst (λ (places : List Place). AreDifferent (map network_at (from ∷ places))) (sym e) (tt, tt)
      | inr on ↦ on.once
    ]

    -- ---- a reception of a forward has the path that goes on there

    module _ (runs : r.running ≡ true) (s : Sent) (f : SpreadBy r c.to.port q s) (to : Place) (there : IsPlace net to)
        (received : receives net (out_at s.port) s.link to ≡ true) where
      abbrev goes : Network
      goes = (port_at r.ports s.port).network

      goes_is : network_at to ≡ goes
      goes_is = (receives_is net (out_at s.port) s.link to received).network ∙ ap (λ (port : Port). port.network) (ports_are s.port)

      abbrev next : Parts
      next = propagated came goes q

      crosses : Crosses routers p.header c.to to
      crosses = record {
        out = s.port;
        runs = runs;
        comes_up = f.leaves.comes_up;
        leaves_up = f.leaves.leaves_up;
        no_echo =
            subst (λ (port : Port). is_own_echo port p.header ≡ false) (sym (ports_are c.to.port))
            (subst (λ (a : Address). (same_node a.node (port_at r.ports c.to.port).node && is_local (port_at r.ports c.to.port) a.network) ≡ false) along.source
            f.leaves.no_echo);
        short =
            let short = f.leaves.short in
            let same = along.size in
            let longest = ap (λ (port : Port). port.longest) (ports_are s.port) in
            omega (arith, short, same, longest);
        received = subst (λ (link : Node). receives net (out_at s.port) link to ≡ true) f.link received;
      }

      -- the networks that the packet listed when it came first
      module _ (first : List Network) (of_p : IsCrossed p.header.control p.payload first) where
        abbrev IsNew : Place → Type 0
        IsNew place = is_among (network_at place) first ≡ false

        listed : f.networks ≡ first ++ left_behind path
        listed =
            w.one_crossed q.header.control q.payload f.networks (first ++ left_behind path) f.crossed (along.crossed first of_p f.crossed.free)

        new_here : (is_among came first ≡ false) × (is_among came (left_behind path) ≡ false)
        new_here =
            none_of_both (λ n. n.0 == came.0) first (left_behind path) (subst (λ (ns : List Network). is_among came ns ≡ false) listed f.new_here)

        new_there : (is_among goes first ≡ false) × (is_among goes (left_behind path) ≡ false)
        new_there =
            none_of_both (λ n. n.0 == goes.0) first (left_behind path) (subst (λ (ns : List Network). is_among goes ns ≡ false) listed f.new_there)

        all_new : AllByRecursion IsNew (from ∷ path)
        all_new = elim along.way [
          | inl e ↦
              let here : network_at from ≡ came = ap (λ (places : List Place). network_at (end_of from places)) (sym e) ∙ came_is in
              subst (λ (places : List Place). AllByRecursion IsNew (from ∷ places)) (sym e)
              (subst (λ (n : Network). is_among n first ≡ false) (sym here) new_here.0, tt)
          | inr on ↦
              let same = w.one_crossed p.header.control p.payload on.networks first on.crossed of_p in
              subst (λ (ns : List Network). AllByRecursion (λ place. is_among (network_at place) ns ≡ false) (from ∷ path)) same on.new
        ]

        not_visited : AllByRecursion (λ n. n ≢ network_at to) (map network_at (from ∷ path))
        not_visited =
            subst (λ (n : Network). AllByRecursion (λ m. m ≢ n) (map network_at (from ∷ path))) (sym goes_is)
            (subst (λ (ns : List Network). AllByRecursion (λ m. m ≢ goes) ns) (sym visited_are)
            (all-append (λ m. m ≢ goes) (left_behind path) (came ∷ []) (none_same goes (left_behind path) new_there.1)
            (elsewhere s.port f.other f.leaves.leaves_up f.leaves.comes_up, tt)))

        way_more : IsForwardedAlong routers p from (path ++ to ∷ [])
        way_more = record {
          leads =
              leads_more routers p.header from path to (leads_of along.way) (subst (λ (at : Place). Crosses routers p.header at to) along.to crosses);
          once =
              subst (λ (ns : List Network). AreDifferent ns) (sym (map-append network_at (from ∷ path) (to ∷ [])))
              (differ_more (map network_at (from ∷ path)) (network_at to) visited_differ not_visited);
          networks = first;
          crossed = of_p;
          new =
              all-append IsNew (from ∷ path) (to ∷ []) all_new
              (subst (λ (n : Network). is_among n first ≡ false) (sym goes_is) new_there.0, tt);
          few =
              let free = f.crossed.free in
              let so_far = along.control in
              let longer = length-append path (to ∷ []) in
              omega (arith, free, so_far, longer);
          source = subst (λ (a : Address). same_node a.node broadcast ≡ false) along.source f.leaves.source;
        }

      goes_along : (number : ℕ) → IsAlong (path ++ to ∷ []) (record { parent = Some number; to = to; bytes = s.bytes })
      goes_along number =
          let (first, of_p) = along.lists f.networks f.crossed in
          let number_came : IsNetwork came =
          subst (λ (port : Port). IsNetwork port.network) (ports_are c.to.port) (place_network net made (out_at c.to.port) (place_there c.to.port f.leaves.comes_up)) in
          let number_goes : IsNetwork goes = subst (λ (n : Network). IsNetwork n) goes_is (place_network net made to there) in
          record {
            packet = next;
            bytes = subst (λ (b : List ℕ). IsBytes b) (sym f.written) (propagated_bytes over c.bytes q along.bytes along.is came goes f.networks f.crossed);
            is = subst (λ (b : List ℕ). IsPacket b next) (sym f.written) (read_propagated w c.bytes q along.is came goes f.networks f.crossed number_goes);
            all = along.all;
            to = sym (end_more from path to);
            control =
                let so_far = along.control in
                let longer = length-append path (to ∷ []) in
                omega (arith, so_far, longer);
            source = along.source;
            size = along.size;
            crossed = λ networks listed few.
                subst (λ (ns : List Network). IsCrossed next.header.control next.payload ns)
                (append_assoc networks (left_behind path) (came ∷ []) ∙ ap (λ (ns : List Network). networks ++ ns) (sym (left_more to)))
                (w.crossed_again q (networks ++ left_behind path) came goes (along.crossed networks listed (omega (arith, few))) few number_came);
            lists = λ networks crossed. (first, of_p);
            way = inr (way_more first of_p);
          }

    pub children_along : (number : ℕ) → AllByRecursion (λ x. IsAlong (path ++ x.to ∷ []) x) (children routers number c)
    children_along number =
        all-flat_map (λ s. (r.running ≡ true) × SpreadBy r c.to.port q s) (λ x. IsAlong (path ++ x.to ∷ []) x) (receivers routers number c)
        (λ s sends. all-map (λ to. IsPlace net to × (receives net (out_at s.port) s.link to ≡ true)) (λ x. IsAlong (path ++ x.to ∷ []) x)
        (λ to. record { parent = Some number; to = to; bytes = s.bytes }) (λ to at. goes_along sends.0 s sends.1 to at.0 at.1 number)
        (delivered net (out_at s.port) s.link) (delivered_within net (out_at s.port) s.link))
        (forwards routers c) sent

    -- ---- no port receives two forwards of it

    pub children_differ : (number : ℕ) → AreDifferent (map (λ x. x.to) (children routers number c))
    children_differ number =
        let Sends : Sent → Type 0 = λ s. (r.running ≡ true) × SpreadBy r c.to.port q s in
        let network : Sent → Network = λ s. (port_at r.ports s.port).network in
        let copy : Sent → Place → Copy = λ s to. record { parent = Some number; to = to; bytes = s.bytes } in
        differ_pieces Sends network network_at (receivers routers number c) (λ (x : Copy). x.to)
        (λ s sends. all-map (λ to. IsPlace net to × (receives net (out_at s.port) s.link to ≡ true)) (λ x. network_at x.to ≡ network s) (copy s)
        (λ to at. (receives_is net (out_at s.port) s.link to at.1).network ∙ ap (λ (port : Port). port.network) (ports_are s.port))
        (delivered net (out_at s.port) s.link) (delivered_within net (out_at s.port) s.link))
        (λ s sends. subst (λ (places : List Place). AreDifferent places)
        (sym (map_back (copy s) (λ (x : Copy). x.to) (λ to. refl) (delivered net (out_at s.port) s.link))) (delivered_differ net (out_at s.port) s.link))
        (forwards routers c) sent
        (differ_by Sends (λ (s : Sent). s.port) network
        (λ a b of_a of_b same. one_port r.ports apart a.port b.port (within a.port of_a.1.leaves.leaves_up) (within b.port of_b.1.leaves.leaves_up) same)
        (forwards routers c) sent (sends laws r of_r c.to.port c.bytes along.bytes q along.is).differ)

    -- ---- each path that goes on is one of a reception

    module _ (to : Place) (on : IsForwardedAlong routers p from (path ++ to ∷ [])) where
      few_crossed : q.header.control < crossed_places
      few_crossed =
          let few = on.few in
          let so_far = along.control in
          let longer = length-append path (to ∷ []) in
          omega (arith, few, so_far, longer)

      last : Crosses routers p.header c.to to
      last = subst (λ (at : Place). Crosses routers p.header at to) (sym along.to) (leads_less routers p.header from path to on.leads).1

      abbrev sent_there : Sent
      sent_there = record {
        port = last.out;
        link = broadcast;
        bytes = packet_bytes (propagated came (port_at r.ports last.out).network q);
      }

      there_is : network_at to ≡ (port_at r.ports last.out).network
      there_is =
          (receives_is net (out_at last.out) broadcast to last.received).network ∙ ap (λ (port : Port). port.network) (ports_are last.out)

      all_differ : AreDifferent ((left_behind path ++ came ∷ []) ++ network_at to ∷ [])
      all_differ =
          subst (λ (ns : List Network). AreDifferent (ns ++ network_at to ∷ [])) visited_are
          (subst (λ (ns : List Network). AreDifferent ns) (map-append network_at (from ∷ path) (to ∷ [])) on.once)

      abbrev IsNewOn : Place → Type 0
      IsNewOn place = is_among (network_at place) on.networks ≡ false

      new_parts : AllByRecursion IsNewOn (from ∷ path) × AllByRecursion IsNewOn (to ∷ [])
      new_parts = all_parts IsNewOn (from ∷ path) (to ∷ []) on.new

      others : AllByRecursion (λ n. n ≢ network_at to) (left_behind path) × AllByRecursion (λ n. n ≢ network_at to) (came ∷ [])
      others = all_parts (λ n. n ≢ network_at to) (left_behind path) (came ∷ []) (differ_less (left_behind path ++ came ∷ []) (network_at to) all_differ).1

      unlisted : is_among came (on.networks ++ left_behind path) ≡ false
      unlisted =
          let ends : AllByRecursion IsNewOn (passed from path ++ end_of from path ∷ []) =
          subst (λ (places : List Place). AllByRecursion IsNewOn places) (whole from path) new_parts.0 in
          let end = (all_parts IsNewOn (passed from path) (end_of from path ∷ []) ends).1.0 in
          let differ = differ_less (left_behind path) came (differ_less (left_behind path ++ came ∷ []) (network_at to) all_differ).0 in
          none_joined (λ n. n.0 == came.0) on.networks (left_behind path) (subst (λ (n : Network). is_among n on.networks ≡ false) came_is end)
          (same_none came (left_behind path) differ.1)

      unlisted_there : is_among (port_at r.ports last.out).network (on.networks ++ left_behind path) ≡ false
      unlisted_there =
          subst (λ (n : Network). is_among n (on.networks ++ left_behind path) ≡ false) there_is
          (none_joined (λ n. n.0 == (network_at to).0) on.networks (left_behind path) new_parts.1.0 (same_none (network_at to) (left_behind path) others.0))

      relays : IsPropagated r.ports r.up c.to.port c.bytes sent_there
      relays = record {
        packet = q;
        is = along.is;
        all = along.all;
        networks = on.networks ++ left_behind path;
        crossed = along.crossed on.networks on.crossed few_crossed;
        other = λ e. others.1.0 (sym (there_is ∙ ap (λ (j : ℕ). (port_at r.ports j).network) e));
        new_here = unlisted;
        new_there = unlisted_there;
        link = refl;
        leaves = record {
          comes_up = last.comes_up;
          leaves_up = last.leaves_up;
          no_echo =
              subst (λ (a : Address). (same_node a.node (port_at r.ports c.to.port).node && is_local (port_at r.ports c.to.port) a.network) ≡ false) (sym along.source)
              (subst (λ (port : Port). is_own_echo port p.header ≡ false) (ports_are c.to.port) last.no_echo);
          source = subst (λ (a : Address). same_node a.node broadcast ≡ false) (sym along.source) on.source;
          short =
              let short = last.short in
              let same = along.size in
              let longest = ap (λ (port : Port). port.longest) (ports_are last.out) in
              omega (arith, short, same, longest);
        };
        written = refl;
      }

      pub child_there : (number : ℕ) → AnyIs (λ x. x.to ≡ to) (children routers number c)
      child_there number =
          let (k, listed) = is_sent_on laws r of_r c.to.port c.bytes sent_there along.bytes last.runs (inr relays) in
          let place : AnyIs (λ at. at ≡ to) (delivered net (out_at last.out) broadcast) =
          any-filter (λ at. at ≡ to) (receives net (out_at last.out) broadcast)
          (λ at e. subst (λ (place : Place). receives net (out_at last.out) broadcast place ≡ true) (sym e) last.received) (places net)
          (among (places net) to (place_in net to (receiver_there made (out_at last.out) broadcast to (place_there last.out last.leaves_up) last.received))) in
          let received : AnyIs (λ x. x.to ≡ to) (receivers routers number c sent_there) =
          any-map (λ at. at ≡ to) (λ x. x.to ≡ to) (λ to. record { parent = Some number; to = to; bytes = sent_there.bytes }) (λ at e. e)
          (delivered net (out_at last.out) broadcast) place in
          any-flat_map (λ s. s ≡ sent_there) (λ x. x.to ≡ to) (receivers routers number c)
          (λ s e. subst (λ (t : Sent). AnyIs (λ x. x.to ≡ to) (receivers routers number c t)) (sym e) received)
          (forwards routers c) (one_at (forwards routers c) k sent_there listed)
