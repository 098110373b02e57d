-- How large the tree of a packet for one network gets. It goes on to one router, sixteen times at most, and then perhaps to all on
-- the network that it is for.
use Rattle.std.proofs.Common.{◌≡◌, refl, sym, ap, ◌∙◌, subst, ℕ, zero, suc, ◌+◌, ◌-◌, ◌<◌, ◌≤◌, ◌⊎◌, not, Some, None, Ok, Err, Option, Result, true, false, List, [], ◌∷◌, ◌++◌, length, flat_map, inl, inr, arith, length-append, append-nil}
use Rattle.std.specs.List.{AllByRecursion}
use Rattle.std.proofs.lemmas.Bool.{and_parts, or_parts, not-true, both_ways, eqb-false}
use Rattle.std.proofs.lemmas.List.{length-map}
use Rattle.ipx_wire.specs.Forward.{forwarded}
use Rattle.ipx_wire.specs.Packet.{Parts, IsPacket, packet_of}
use Rattle.ipx_wire.specs.Piece.{IsBytes}
use Rattle.ipx_wire.specs.Write.{packet_bytes}
use Rattle.ipx_wire.specs.declared.packet.PacketFault.{PacketFault}
use Rattle.ipx_router.specs.Numbers.{most_routers}
use Rattle.ipx_router.specs.Outgoing.{way_to}
use Rattle.ipx_router.specs.Packets.{IsRelayed}
use Rattle.ipx_router.specs.Port.{Port, broadcast, port_at, is_up, is_local, same_node}
use Rattle.ipx_router.specs.Relays.{Sent, relayed}
use Rattle.ipx_router.specs.Why.{is_propagated, is_far, why}
use Rattle.ipx_router.specs.declared.why.Why.{Why}
use Rattle.ipx_internet.specs.Delivery.{receives, delivered}
use Rattle.ipx_internet.specs.Internet.{Internet, Place, network_of, IsPlace, IsInternet, NodesDiffer}
use Rattle.ipx_internet.specs.Most.{most_on_network}
use Rattle.ipx_internet.specs.Tree.{Router, IsRouter, Copy, net_of, router_at, forwards, receivers, children, next_level, levels, joined, tree_to}
use Rattle.ipx_internet.proofs.lists.EachElement.{all_then, all-map, at_most_one, holds_of, differ-unmap}
use Rattle.ipx_internet.proofs.packets.SentOnIsBytes.{SentOn, forwarded_bytes}
use Rattle.ipx_internet.proofs.packets.SentOnReadAgain.{Wire, read_forwarded}
use Rattle.ipx_internet.proofs.places.EachPortOnce.{delivered_differ, delivered_within}
use Rattle.ipx_internet.proofs.places.FewOnANetwork.{delivered_few, some_on_network}
use Rattle.ipx_internet.proofs.places.OneReceiverOfANode.{receives_is, one_receiver}
use Rattle.ipx_internet.proofs.trees.NextLevelIsBounded.{Relaying, Sends, sends, none_behind}
use Rattle.ipx_internet.proofs.trees.OnePlaceToGo.{by_port_or_node, one_sent}
use Rattle.ipx_internet.proofs.trees.PropagatedIsBounded.{ports_same, router_is}

-- ---- receptions that send nothing on

abbrev nothing_sent : List Sent
nothing_sent = []

module _ (routers : List Router) where
  abbrev pub IsLast : Copy → Type 0
  IsLast c = forwards routers c ≡ []

  pub nothing_next : (first : ℕ) (level : List Copy) → AllByRecursion IsLast level → next_level routers first level ≡ []
  nothing_next first [] all = refl
  nothing_next first (c ∷ level) all =
      let none : children routers first c ≡ [] = ap (λ (ss : List Sent). flat_map (receivers routers first c) ss) all.0 in
      ap (λ (ks : List Copy). ks ++ next_level routers (first + 1) level) none ∙ nothing_next (first + 1) level all.1

  last_level : (m first : ℕ) (level : List Copy) → AllByRecursion IsLast level → length (joined (levels routers m first level)) ≤ length level
  last_level m first level all = grind (arith, length-append, nothing_next, none_behind)

-- of bytes that are no packet nothing is sent on
pub unread : (routers : List Router) (c : Copy) (fault : PacketFault) → packet_of c.bytes ≡ Err fault → forwards routers c ≡ []
unread routers c fault read =
    by (why r.ports r.up r.routes r.running c.to.port c.bytes) (packet_of c.bytes) read
  where
    r : Router
    r = router_at routers c.to.router

    by : (o : Option Why) (q : Result Parts PacketFault) → q ≡ Err fault
        → elim o [ Some reason ↦ nothing_sent | None ↦ elim q [ Ok p ↦ relayed r.ports r.up r.routes c.to.port p | Err f ↦ nothing_sent ] ] ≡ nothing_sent
    by (Some reason) q e = refl
    by None q e = rw e refl

module _ (w : Wire) (laws : Relaying) (over : SentOn) (routers : List Router) (made : IsInternet (net_of routers)) (right : AllByRecursion IsRouter routers) where
  abbrev net : Internet
  net = net_of routers

  abbrev router_of : Copy → Router
  router_of c = router_at routers c.to.router

  -- how a packet for one network is sent on
  pub record Passed (c : Copy) (p : Parts) (s : Sent) : Type 0 where
    pub far : is_far (port_at (router_of c).ports c.to.port) p.header ≡ true
    pub few : p.header.control < most_routers
    pub way : way_to (router_of c).ports (router_of c).up (router_of c).routes p.header.destination ≡ Some (record { port = s.port; link = s.link })
    pub leaves_up : is_up (router_of c).up s.port ≡ true
    pub written : s.bytes ≡ packet_bytes (forwarded p)

  -- a reception of such a packet
  pub record IsOne (c : Copy) (p : Parts) : Type 0 where
    pub bytes : IsBytes c.bytes
    pub packet : IsPacket c.bytes p
    pub one : is_propagated p.header ≡ false

  module _ (c : Copy) (p : Parts) (at : IsOne c p) where
    passed_by : (s : Sent) → IsRelayed (router_of c).ports (router_of c).up (router_of c).routes c.to.port c.bytes s → Passed c p s
    passed_by s relayed = elim relayed [
      | inl f ↦
          let P : Parts → Type 0 = λ q. Passed c q s in
          subst P (w.one_packet c.bytes f.packet p f.is at.packet)
          (record { far = f.far; few = f.few; way = f.way; leaves_up = f.leaves.leaves_up; written = f.written })
      | inr f ↦
          let P : Parts → Type 0 = λ q. is_propagated q.header ≡ true in
          absurd (both_ways (is_propagated p.header) at.one (subst P (w.one_packet c.bytes f.packet p f.is at.packet) f.all))
    ]

    sent : Sends laws (router_of c) (router_is routers right c.to.router) c.to.port c.bytes at.bytes p at.packet (forwards routers c)
    sent = sends laws (router_of c) (router_is routers right c.to.router) c.to.port c.bytes at.bytes p at.packet

    pub passed : AllByRecursion (Passed c p) (forwards routers c)
    passed = all_then (IsRelayed (router_of c).ports (router_of c).up (router_of c).routes c.to.port c.bytes) (Passed c p) passed_by (forwards routers c) sent.each

    pub once : length (forwards routers c) ≤ 1
    once =
        at_most_one (Passed c p)
        (λ s t f g. one_sent (way_to (router_of c).ports (router_of c).up (router_of c).routes p.header.destination)
        (packet_bytes (forwarded p)) s t f.way g.way f.written g.written)
        (forwards routers c) passed (differ-unmap (λ s. s.port) (forwards routers c) sent.differ)

  -- a packet that is near isn't sent on
  near_last : (k : Copy) (q : Parts) → IsOne k q → q.header.destination.network.0 ≡ (port_at (router_of k).ports k.to.port).network.0 → IsLast routers k
  near_last k q at near = none (forwards routers k) (passed k q at)
    where
      none : (ss : List Sent) → AllByRecursion (Passed k q) ss → ss ≡ []
      none [] all = refl
      none (t ∷ ss) all =
          let port = port_at (router_of k).ports k.to.port in
          let beyond = not-true (is_local port q.header.destination.network)
          (and_parts (not (is_propagated q.header)) (not (is_local port q.header.destination.network)) all.0.far).1 in
          absurd (eqb-false q.header.destination.network.0 port.network.0 (or_parts _ _ beyond).1 near)

  -- ---- one forward, and those that receive it

  module _ (c : Copy) (p : Parts) (at : IsOne c p) where
    module _ (s : Sent) (f : Passed c p s) where
      abbrev from : Place
      from = record { router = c.to.router; port = s.port }

      from_there : IsPlace net from
      from_there = grind (arith, ports_same, holds_of, router_is)

      -- what is received of it
      pub child_is : (k : Copy) → k.bytes ≡ s.bytes → IsOne k (forwarded p)
      child_is k same =
          let P : List ℕ → Type 0 = λ b. IsPacket b (forwarded p) in
          let B : List ℕ → Type 0 = λ b. IsBytes b in
          record {
            bytes = subst B (sym (same ∙ f.written)) (forwarded_bytes over c.bytes p at.bytes at.packet f.few);
            packet = subst P (sym (same ∙ f.written)) (read_forwarded w c.bytes p at.packet f.few);
            one = at.one;
          }

      -- each receives the bytes, on a port that there is
      abbrev copy : ℕ → Place → Copy
      copy number to = record { parent = Some number; to = to; bytes = s.bytes }

      pub received : (number : ℕ) → AllByRecursion (λ k. IsOne k (forwarded p) × IsPlace net k.to) (receivers routers number c s)
      received number =
          all-map (λ to. IsPlace net to × (receives net from s.link to ≡ true)) (λ k. IsOne k (forwarded p) × IsPlace net k.to) (copy number)
          (λ to there. (child_is (copy number to) refl, there.0)) (delivered net from s.link) (delivered_within net from s.link)

      -- where it left on the network that it is for, it is near for all that receive it, and none sends it on
      module _ (here : (port_at (router_of c).ports s.port).network.0 ≡ p.header.destination.network.0) where
        pub near_there : (to : Place) → network_of net to ≡ network_of net from → p.header.destination.network.0 ≡ (network_of net to).0
        near_there to e = grind (arith, ports_same)

        direct : (number : ℕ) → AllByRecursion (IsLast routers) (receivers routers number c s)
        direct number =
            all-map (λ to. IsPlace net to × (receives net from s.link to ≡ true)) (IsLast routers) (copy number)
            (λ to there. stays to (receives_is net from s.link to there.1).network) (delivered net from s.link) (delivered_within net from s.link)
          where
            stays : (to : Place) → network_of net to ≡ network_of net from → IsLast routers (copy number to)
            stays to e =
                near_last (copy number to) (forwarded p) (child_is (copy number to) refl)
                (near_there to e ∙ ap (λ (ports : List Port). (port_at ports to.port).network.0) (ports_same routers to.router))

      -- where it was sent to one node, one receives it at most
      pub one_node : NodesDiffer net → same_node s.link broadcast ≡ false → (number : ℕ) → length (receivers routers number c s) ≤ 1
      one_node differ one number =
          let same = length-map (delivered net from s.link) (copy number) in
          let few =
          at_most_one (λ to. IsPlace net to × (receives net from s.link to ≡ true))
          (λ a b on_a on_b. one_receiver w net made differ from s.link a b one on_a.0 on_b.0 (receives_is net from s.link a on_a.1)
          (receives_is net from s.link b on_b.1))
          (delivered net from s.link) (delivered_within net from s.link) (delivered_differ net from s.link) in
          omega (arith, same, few)

      pub few_receive : (number : ℕ) → length (receivers routers number c s) ≤ most_on_network net - 1
      few_receive number = grind (arith, length-map, delivered_few, from_there)

    -- ---- what is behind a reception

    -- all its receivers are the last, or there is one
    EndsOrLeads : List Copy → Type 0
    EndsOrLeads ks =
        (AllByRecursion (IsLast routers) ks × (length ks ≤ most_on_network net - 1))
        ⊎ ((length ks ≤ 1) × AllByRecursion (λ k. IsOne k (forwarded p) × IsPlace net k.to) ks × (p.header.control < most_routers))

    ends_or_leads : NodesDiffer net → (number : ℕ) → EndsOrLeads (next_level routers number (c ∷ []))
    unfolding EndsOrLeads
    ends_or_leads differ number =
        let P : List Copy → Type 0 = λ ks. EndsOrLeads ks in
        subst P (sym (append-nil (children routers number c))) (by (forwards routers c) (passed c p at) (once c p at))
      where
        by : (ss : List Sent) → AllByRecursion (Passed c p) ss → length ss ≤ 1 → EndsOrLeads (flat_map (receivers routers number c) ss)
        by [] all few = inl (tt, omega arith)
        by (s ∷ t ∷ ss) all few = absurd (omega (arith, few))
        by (s ∷ []) all few =
            let f = all.0 in
            let P : List Copy → Type 0 = λ ks. EndsOrLeads ks in
            subst P (sym (append-nil (receivers routers number c s)))
            (elim (by_port_or_node (router_of c).ports (router_of c).up (router_of c).routes p.header.destination (record { port = s.port; link = s.link })
            (router_is routers right c.to.router).table f.way) [
              | inl here ↦ inl (direct s f here number, few_receive s f number)
              | inr one ↦ inr (one_node s f differ one number, received s f number, f.few)
            ])

  follow : NodesDiffer net → (m first : ℕ) (c : Copy) (p : Parts) → IsOne c p → IsPlace net c.to → p.header.control ≤ most_routers
      → length (joined (levels routers m first (c ∷ []))) ≤ (most_routers - p.header.control) + most_on_network net
  unfolding EndsOrLeads
  follow differ zero first c p at there few = omega arith
  follow differ (suc m) first c p at there few =
      let next = next_level routers first (c ∷ []) in
      let counted = length-append (c ∷ []) (joined (levels routers m (first + 1) next)) in
      let some = some_on_network net c.to there in
      let rest : length (joined (levels routers m (first + 1) next)) + 1 ≤ (most_routers - p.header.control) + most_on_network net =
      elim (ends_or_leads c p at differ first) [
        | inl (last, short) ↦ let behind = last_level routers m (first + 1) next last in omega (arith, behind, short, some)
        | inr (one, are, below) ↦ leads (λ x q at_x there_x few_x. follow differ m (first + 1) x q at_x there_x few_x) next one are below some
      ] in
      omega (arith, counted, rest)
    where
      leads : ((x : Copy) (q : Parts) → IsOne x q → IsPlace net x.to → q.header.control ≤ most_routers
          → length (joined (levels routers m (first + 1) (x ∷ []))) ≤ (most_routers - q.header.control) + most_on_network net)
          → (ks : List Copy) → length ks ≤ 1 → AllByRecursion (λ k. IsOne k (forwarded p) × IsPlace net k.to) ks → p.header.control < most_routers
          → 1 ≤ most_on_network net
          → length (joined (levels routers m (first + 1) ks)) + 1 ≤ (most_routers - p.header.control) + most_on_network net
      leads on [] one are below some = let none = none_behind routers m (first + 1) in omega (arith, none, some)
      leads on (x ∷ y ∷ ks) one are below some = absurd (omega (arith, one))
      leads on (x ∷ []) one are below some =
          let deeper : length (joined (levels routers m (first + 1) (x ∷ []))) ≤ (most_routers - (p.header.control + 1)) + most_on_network net =
          on x (forwarded p) are.0.0 are.0.1 (omega (arith, below)) in
          omega (arith, deeper, below)

  pub one_network : NodesDiffer net → (c : Copy) (p : Parts) (n : ℕ) → IsBytes c.bytes → IsPlace net c.to → IsPacket c.bytes p → is_propagated p.header ≡ false
      → p.header.control ≤ most_routers → length (tree_to routers n c) ≤ (most_routers - p.header.control) + most_on_network net
  one_network differ c p n bytes there packet one few = follow differ n 0 c p (record { bytes = bytes; packet = packet; one = one }) there few

  -- all other bytes go nowhere
  pub nowhere : (c : Copy) (n : ℕ) → IsBytes c.bytes → ((p : Parts) → IsPacket c.bytes p → (is_propagated p.header ≡ false) × (most_routers ≤ p.header.control))
      → length (tree_to routers n c) ≤ 1
  nowhere c n bytes old = last_level routers n 0 (c ∷ []) (by (packet_of c.bytes) refl, tt)
    where
      none : (p : Parts) → IsOne c p → most_routers ≤ p.header.control → (ss : List Sent) → AllByRecursion (Passed c p) ss → ss ≡ []
      none p at full [] all = refl
      none p at full (s ∷ ss) all = let few = all.0.few in absurd (omega (arith, few, full))

      by : (q : Result Parts PacketFault) → packet_of c.bytes ≡ q → IsLast routers c
      by (Ok p) read =
          let packet = (laws.packet_read c.bytes p bytes).0 read in
          let (one, full) = old p packet in
          none p (record { bytes = bytes; packet = packet; one = one }) full (forwards routers c) (passed c p (record { bytes = bytes; packet = packet; one = one }))
      by (Err fault) read =
          unread routers c fault read
