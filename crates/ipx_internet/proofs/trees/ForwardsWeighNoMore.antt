-- Whatever is sent on, it and what receives it weigh no more than what it came of.
use Rattle.std.proofs.Common.{◌≡◌, refl, sym, ap, ◌∙◌, subst, ℕ, zero, suc, ◌+◌, ◌-◌, ◌*◌, ◌≤◌, ◌==◌, not, nat_lt, Bool, true, false, List, [], ◌∷◌, ◌++◌, length, flat_map, Some, Result, Ok, Err, slice_get, inl, inr, arith, append-nil, mul-le-mul_right, one-mul}
use Rattle.std.specs.List.{AllByRecursion}
use Rattle.std.proofs.lemmas.Bool.{and_from, and_right, and_left, eq-eqb, lt-ltb, le-ltb, not_from_true, or_right}
use Rattle.ipx_wire.specs.Forward.{forwarded}
use Rattle.ipx_wire.specs.Numbers.{crossed_places}
use Rattle.ipx_wire.specs.Packet.{Parts, IsPacket, packet_of}
use Rattle.ipx_wire.specs.Piece.{IsBytes}
use Rattle.ipx_wire.specs.declared.packet.PacketFault.{PacketFault}
use Rattle.ipx_router.specs.Numbers.{most_routers}
use Rattle.ipx_router.specs.Port.{Port, port_at, is_local}
use Rattle.ipx_router.specs.Relays.{Sent}
use Rattle.ipx_router.specs.Why.{is_propagated, is_far}
use Rattle.ipx_internet.specs.Delivery.{receives, delivered}
use Rattle.ipx_internet.specs.Internet.{Internet, Place, port_of, IsPlace, IsInternet, NodesDiffer}
use Rattle.ipx_internet.specs.Most.{most, most_ports, most_on_network}
use Rattle.ipx_internet.specs.Tree.{Router, IsRouter, Copy, net_of, router_at, forwards, receivers, children}
use Rattle.ipx_internet.specs.Weight.{goes_on, weight_by, packet_weight, weight, weights, CanCome, IsBounded}
use Rattle.ipx_internet.proofs.lists.EachElement.{all_of, all_then, all-map, all-flat_map}
use Rattle.ipx_internet.proofs.packets.SentOnIsBytes.{SentOn}
use Rattle.ipx_internet.proofs.packets.SentOnReadAgain.{Wire}
use Rattle.ipx_internet.proofs.places.EachPortOnce.{delivered_within}
use Rattle.ipx_internet.proofs.places.FewOnANetwork.{some_on_network}
use Rattle.ipx_internet.proofs.places.OneReceiverOfANode.{receives_is}
use Rattle.ipx_internet.proofs.trees.DirectedIsBounded as following
use Rattle.ipx_internet.proofs.trees.DirectedIsBounded.{unread}
use Rattle.ipx_internet.proofs.trees.NextLevelIsBounded.{Relaying}
use Rattle.ipx_internet.proofs.trees.OnePlaceToGo.{by_port_or_node}
use Rattle.ipx_internet.proofs.trees.PropagatedIsBounded as spreading
use Rattle.ipx_internet.proofs.trees.PropagatedIsBounded.{ports_same}
use Rattle.ipx_internet.proofs.trees.RootOutweighsItsList as weighed
use Rattle.ipx_internet.proofs.trees.RootOutweighsItsList.{most_rises, weighs, unread_weighs, at_least_one, weights_each, all_get}
use Rattle.ipx_internet.proofs.trees.SeventeenLevelsAtMost as ending

-- two things that hold of each hold of each together
all_both : {X : Type 0} (P Q : X → Type 0) (xs : List X) → AllByRecursion P xs → AllByRecursion Q xs → AllByRecursion (λ x. P x × Q x) xs
all_both P Q [] one two = tt
all_both P Q (x ∷ xs) one two = ((one.0, two.0), all_both P Q xs one.1 two.1)

-- ---- what one reception weighs, by what its packet is

module _ (laws : Relaying) (net : Internet) (c : Copy) where
  read_weighs : (p : Parts) → IsBytes c.bytes → IsPacket c.bytes p → weight net c ≡ packet_weight net (port_of net c.to) p
  read_weighs p bytes packet = weighs net c p ((laws.packet_read c.bytes p bytes).1 packet)

  -- a propagated one, by how often it may still be sent on
  pub all_weighs : (p : Parts) → IsBytes c.bytes → IsPacket c.bytes p → is_propagated p.header ≡ true → weight net c ≡ most net (crossed_places - p.header.control)
  all_weighs p bytes packet all =
      read_weighs p bytes packet
      ∙ ap (λ (b : Bool). weight_by net p.header.control b (goes_on (port_of net c.to) p.header)) all

  -- one for one network, by whether it goes on
  one_weighs : (p : Parts) (goes : Bool) → IsBytes c.bytes → IsPacket c.bytes p → is_propagated p.header ≡ false
      → goes_on (port_of net c.to) p.header ≡ goes → weight net c ≡ weight_by net p.header.control false goes
  one_weighs p goes bytes packet one same =
      read_weighs p bytes packet
      ∙ ap (λ (b : Bool). weight_by net p.header.control b (goes_on (port_of net c.to) p.header)) one
      ∙ ap (λ (b : Bool). weight_by net p.header.control false b) same

  pub one_network : (p : Parts) → CanCome net c → IsPacket c.bytes p → is_propagated p.header ≡ false → p.header.control ≤ most_routers
      → weight net c ≤ (most_routers - p.header.control) + most_on_network net
  one_network p can packet one few =
      by (goes_on (port_of net c.to) p.header) refl
    where
      by : (goes : Bool) → goes_on (port_of net c.to) p.header ≡ goes
          → weight net c ≤ (most_routers - p.header.control) + most_on_network net
      by true same = let weighed = one_weighs p true can.bytes packet one same in omega (arith, weighed)
      by false same =
          let weighed = one_weighs p false can.bytes packet one same in
          let some = some_on_network net c.to can.there in
          omega (arith, weighed, some)

  pub nowhere : IsBytes c.bytes → ((p : Parts) → IsPacket c.bytes p → (is_propagated p.header ≡ false) × (most_routers ≤ p.header.control)) → weight net c ≤ 1
  nowhere bytes old = by (packet_of c.bytes) refl
    where
      by : (q : Result Parts PacketFault) → packet_of c.bytes ≡ q → weight net c ≤ 1
      by (Err fault) read = let weighed = unread_weighs net c fault read in omega (arith, weighed)
      by (Ok p) read =
          let packet = (laws.packet_read c.bytes p bytes).0 read in
          let (one, full) = old p packet in
          let aged : nat_lt p.header.control most_routers ≡ false = le-ltb p.header.control most_routers full in
          let weighed =
          one_weighs p false bytes packet one
          (and_right (is_far (port_of net c.to) p.header) (nat_lt p.header.control most_routers) aged) in
          omega (arith, weighed)

-- ---- what it and those that receive its forwards weigh

module _ (w : Wire) (laws : Relaying) (over : SentOn) (routers : List Router) (made : IsInternet (net_of routers)) (right : AllByRecursion IsRouter routers) where
  abbrev net : Internet
  net = net_of routers

  module _ (c : Copy) (can : CanCome net c) (number : ℕ) where
    -- each is received on a port that there is
    children_within : AllByRecursion (λ k. IsPlace net k.to) (children routers number c)
    children_within =
        all-flat_map (λ s. Unit {0}) (λ k. IsPlace net k.to) (receivers routers number c)
        (λ s any.
        let from : Place = record { router = c.to.router; port = s.port } in
        all-map (λ to. IsPlace net to × (receives net from s.link to ≡ true)) (λ k. IsPlace net k.to)
        (λ to. record { parent = Some number; to = to; bytes = s.bytes }) (λ to there. there.0) (delivered net from s.link) (delivered_within net from s.link))
        (forwards routers c) (all_of (λ s. Unit {0}) (λ s. tt) (forwards routers c))

    pub can_come : AllByRecursion (CanCome net) (children routers number c)
    unfolding ending.IsOld
    can_come =
        all_then (λ k. ending.IsOld w laws over routers made right 1 k.bytes × IsPlace net k.to) (CanCome net)
        (λ k both. record { bytes = both.0.0; there = both.1 }) (children routers number c)
        (all_both (λ k. ending.IsOld w laws over routers made right 1 k.bytes) (λ k. IsPlace net k.to) (children routers number c)
        (ending.children_older w laws over routers made right 0 c (can.bytes, λ p is. omega arith) number) children_within)

    -- ---- of a propagated packet

    module _ (p : Parts) (packet : IsPacket c.bytes p) (all : is_propagated p.header ≡ true) where
      live : spreading.IsLive w laws over routers made right p.header.control c
      live = record { packet = p; bytes = can.bytes; is = packet; all = all; old = omega arith }

      abbrev degree : ℕ
      degree = (most_ports net - 1) * (most_on_network net - 1)

      spread : 1 + weights net (children routers number c) ≤ weight net c
      spread =
          let weighed = all_weighs laws net c p can.bytes packet all in
          let light = by (crossed_places - p.header.control) refl in
          omega (arith, weighed, light)
        where
          each : (n : ℕ) → crossed_places - (p.header.control + 1) ≤ n → weights net (children routers number c) ≤ length (children routers number c) * most net n
          each n enough =
              weights_each net (most net n) (children routers number c)
              (all_then (spreading.IsLive w laws over routers made right (p.header.control + 1)) (λ k. weight net k ≤ most net n)
              (λ k is.
              let old = is.old in
              let weighed = all_weighs laws net k is.packet is.bytes is.is is.all in
              let fewer = most_rises degree (crossed_places - is.packet.header.control) n (omega (arith, old, enough)) in
              omega (arith, weighed, fewer))
              (children routers number c) (spreading.children_live w laws over routers made right p.header.control c live number))

          by : (n : ℕ) → crossed_places - p.header.control ≡ n → 1 + weights net (children routers number c) ≤ most net n
          by zero left =
              let none = spreading.no_children w laws over routers made right p.header.control c live (omega (arith, left)) number in
              let light = each 0 (omega (arith, left)) in
              let nothing_more = mul-le-mul_right (most net 0) none in
              omega (arith, light, nothing_more)
          by (suc n) left =
              let few = spreading.children_few w laws over routers made right p.header.control c live number in
              let light = each n (omega (arith, left)) in
              let product = mul-le-mul_right (most net n) few in
              omega (arith, light, product)

    -- ---- of a packet for one network

    module _ (differ : NodesDiffer net) (p : Parts) (at : following.IsOne w laws over routers made right c p) where
      abbrev Passed : Sent → Type 0
      Passed s = following.Passed w laws over routers made right c p s

      -- one that is sent on is far, and not too old
      far_weighs : (s : Sent) → Passed s → weight net c ≡ (most_routers - p.header.control) + most_on_network net
      far_weighs s f =
          let P : List Port → Type 0 = λ ports. is_far (port_at ports c.to.port) p.header ≡ true in
          let far : is_far (port_of net c.to) p.header ≡ true = subst P (sym (ports_same routers c.to.router)) f.far in
          let young : nat_lt p.header.control most_routers ≡ true = lt-ltb p.header.control most_routers f.few in
          one_weighs laws net c p true can.bytes at.packet at.one (and_from (is_far (port_of net c.to) p.header) (nat_lt p.header.control most_routers) far young)

      module _ (s : Sent) (f : Passed s) where
        -- near, it goes no further
        near_weighs : (port_at (router_at routers c.to.router).ports s.port).network.0 ≡ p.header.destination.network.0
            → AllByRecursion (λ k. weight net k ≤ 1) (receivers routers number c s)
        near_weighs here =
            let from : Place = record { router = c.to.router; port = s.port } in
            let copy : Place → Copy = λ to. record { parent = Some number; to = to; bytes = s.bytes } in
            all-map (λ to. IsPlace net to × (receives net from s.link to ≡ true)) (λ k. weight net k ≤ 1) copy
            (λ to there.
            let is = following.child_is w laws over routers made right c p at s f (copy to) refl in
            let near = following.near_there w laws over routers made right c p at s f here to (receives_is net from s.link to there.1).network in
            let weighed = one_weighs laws net (copy to) (forwarded p) false is.bytes is.packet is.one (stays to near) in
            omega (arith, weighed))
            (delivered net from s.link) (delivered_within net from s.link)
          where
            stays : (to : Place) → p.header.destination.network.0 ≡ (port_of net to).network.0
                → goes_on (port_of net to) (forwarded p).header ≡ false
            stays to near =
                let port = port_of net to in
                let local : is_local port p.header.destination.network ≡ true =
                or_right _ (p.header.destination.network.0 == port.network.0) (eq-eqb p.header.destination.network.0 port.network.0 near) in
                and_left (is_far port p.header) (nat_lt (p.header.control + 1) most_routers)
                (and_right (not (is_propagated p.header)) (not (is_local port p.header.destination.network))
                (not_from_true (is_local port p.header.destination.network) local))

        -- what one router receives by a route
        routed : length (receivers routers number c s) ≤ 1
            → weights net (receivers routers number c s) ≤ (most_routers - (p.header.control + 1)) + most_on_network net
        routed single =
            let few = f.few in
            let each = (most_routers - (p.header.control + 1)) + most_on_network net in
            let light =
            weights_each net each (receivers routers number c s)
            (all_then (λ k. following.IsOne w laws over routers made right k (forwarded p) × IsPlace net k.to) (λ k. weight net k ≤ each)
            (λ k is. one_network laws net k (forwarded p) (record { bytes = is.0.bytes; there = is.1 }) is.0.packet is.0.one (omega (arith, few)))
            (receivers routers number c s) (following.received w laws over routers made right c p at s f number)) in
            let product = mul-le-mul_right each single in
            let one = one-mul each in
            omega (arith, light, product, one)

        sent_on_once : 1 + weights net (receivers routers number c s) ≤ weight net c
        sent_on_once =
            let weighed = far_weighs s f in
            let few = f.few in
            elim (by_port_or_node (router_at routers c.to.router).ports (router_at routers c.to.router).up (router_at routers c.to.router).routes
            p.header.destination (record { port = s.port; link = s.link }) (spreading.router_is routers right c.to.router).table f.way) [
              | inl here ↦
                  let light = weights_each net 1 (receivers routers number c s) (near_weighs here) in
                  let reached = following.few_receive w laws over routers made right c p at s f number in
                  omega (arith, weighed, few, light, reached)
              | inr one ↦
                  let light = routed (following.one_node w laws over routers made right c p at s f differ one number) in
                  omega (arith, weighed, few, light)
            ]

      follow : 1 + weights net (children routers number c) ≤ weight net c
      follow =
          by (forwards routers c) (following.passed w laws over routers made right c p at) (following.once w laws over routers made right c p at)
        where
          by : (ss : List Sent) → AllByRecursion Passed ss → length ss ≤ 1 → 1 + weights net (flat_map (receivers routers number c) ss) ≤ weight net c
          by [] all few = at_least_one net c
          by (s ∷ t ∷ ss) all few = absurd (omega (arith, few))
          by (s ∷ []) all few = rw (append-nil (receivers routers number c s)) (sent_on_once s all.0)

    -- ---- of any bytes

    pub never_rises : NodesDiffer net → 1 + weights net (children routers number c) ≤ weight net c
    never_rises differ = read_as (packet_of c.bytes) refl
      where
        by : (p : Parts) → IsPacket c.bytes p → (all : Bool) → is_propagated p.header ≡ all → 1 + weights net (children routers number c) ≤ weight net c
        by p packet true all = spread p packet all
        by p packet false one = follow differ p (record { bytes = can.bytes; packet = packet; one = one })

        read_as : (q : Result Parts PacketFault) → packet_of c.bytes ≡ q → 1 + weights net (children routers number c) ≤ weight net c
        read_as (Ok p) read = by p ((laws.packet_read c.bytes p can.bytes).0 read) (is_propagated p.header) refl
        read_as (Err fault) read =
            let none = ap (λ (ss : List Sent). 1 + weights net (flat_map (receivers routers number c) ss)) (unread routers c fault read) in
            let one = at_least_one net c in
            omega (arith, none, one)

  -- so a list stays bounded
  pub stays_bounded : NodesDiffer net → (root c : Copy) (copies : List Copy) (sent number : ℕ) → IsBounded net root sent copies
      → slice_get copies sent ≡ Some c → IsBounded net root (sent + 1) (copies ++ children routers number c)
  stays_bounded differ root c copies sent number bounded there =
      let can = all_get net (CanCome net) copies sent c bounded.each there in
      weighed.goes_on net root c copies (children routers number c) sent bounded there (can_come c can number) (never_rises c can number differ)
