-- A delivery that a router doesn't hear leaves less weight than there was: what is sent on says what it said, and each of the receptions
-- that it leads to is counted.
use Rattle.std.proofs.lemmas.Grind.{common_steps}
use Rattle.std.proofs.Common.{◌≡◌, refl, sym, ap, ◌∙◌, subst, ℕ, zero, suc, ◌+◌, ◌-◌, ◌*◌, ◌<◌, ◌≤◌, ◌==◌, max, not, if◌then◌else◌, Bool, true, false, List, [], ◌∷◌, length, flat_map, map, Option, Some, None, Result, Ok, Err, inl, inr, arith, append-nil, mul-le-mul_right, one-mul}
use Rattle.std.specs.List.{AllByRecursion, sum_by}
use Rattle.std.proofs.lemmas.Bool.{and_parts, not-true, or_right, eq-eqb}
use Rattle.std.proofs.lemmas.List.Sums.{sum_by-cons, sum_by-append}
use Rattle.ipx_wire.specs.Forward.{forwarded}
use Rattle.ipx_wire.specs.Numbers.{crossed_places}
use Rattle.ipx_wire.specs.Packet.{Parts, IsPacket, packet_of}
use Rattle.ipx_wire.specs.Piece.{IsBytes}
use Rattle.ipx_wire.specs.declared.packet.PacketFault.{PacketFault}
use Rattle.ipx_router.specs.Facts.{routes_heard, services_heard}
use Rattle.ipx_router.specs.Heard.{Heard}
use Rattle.ipx_router.specs.History.{History, running}
use Rattle.ipx_router.specs.Numbers.{most_routers}
use Rattle.ipx_router.specs.Port.{Port, port_at, is_local}
use Rattle.ipx_router.specs.Relays.{Sent, relayed}
use Rattle.ipx_router.specs.Sends.{Holding, heard_sends}
use Rattle.ipx_router.specs.Why.{why, is_propagated, is_far}
use Rattle.ipx_internet.specs.Delivery.{receives, delivered}
use Rattle.ipx_internet.specs.Internet.{Internet, Place, IsInternet, IsPlace, NodesDiffer, ports_of, port_of}
use Rattle.ipx_internet.specs.InternetWeight.{most_hearers}
use Rattle.ipx_internet.specs.Most.{most, most_on_network}
use Rattle.ipx_internet.specs.Queue.{Delivery, deliveries_of, history_of}
use Rattle.ipx_internet.specs.Rounds.{IsDelivery}
use Rattle.ipx_internet.specs.Run.{AreHistories}
use Rattle.ipx_internet.specs.Tree.{Router, IsRouter, Copy, router_now, net_of, router_at, sent_on, forwards, receivers, children, root}
use Rattle.ipx_internet.specs.Weight.{weight, weights, CanCome}
use Rattle.ipx_internet.proofs.deliveries.WaitsAfterDelivery.{there}
use Rattle.ipx_internet.proofs.lists.EachElement.{all_then, all-map}
use Rattle.ipx_internet.proofs.packets.SentOnIsBytes.{SentOn}
use Rattle.ipx_internet.proofs.packets.SentOnOrReply.{Layouts}
use Rattle.ipx_internet.proofs.packets.SentOnReadAgain.{Wire}
use Rattle.ipx_internet.proofs.places.EachPortOnce.{delivered_within}
use Rattle.ipx_internet.proofs.places.OneReceiverOfANode.{receives_is}
use Rattle.ipx_internet.proofs.rounds.OneRound.{sents, sent_for}
use Rattle.ipx_internet.proofs.trees.DirectedIsBounded as following
use Rattle.ipx_internet.proofs.trees.DirectedIsBounded.{unread}
use Rattle.ipx_internet.proofs.trees.ForwardsWeighNoMore.{all_weighs, never_rises}
use Rattle.ipx_internet.proofs.trees.NextLevelIsBounded.{Relaying}
use Rattle.ipx_internet.proofs.trees.OnePlaceToGo.{by_port_or_node}
use Rattle.ipx_internet.proofs.trees.PropagatedIsBounded as spreading
use Rattle.ipx_internet.proofs.trees.PropagatedIsBounded.{ports_same}
use Rattle.ipx_internet.proofs.weights.HeardPaysItsChanges as outlays
use Rattle.ipx_internet.proofs.weights.PagesAtTheirProcess.{w, said, as_read, plain_weighs, at_least_one}
use Rattle.ipx_internet.proofs.weights.PagesWeighTheirItems.{sum_few}

-- ---- the routers of an internet after histories

module _ (most_routes : ℕ) where
  abbrev after_each : Internet → (ℕ → History) → List Router
  after_each [] history = []
  after_each (ports ∷ net) history = router_now ports most_routes (history 0) ∷ after_each net (λ k. history (suc k))

  its_ports : (net : Internet) (history : ℕ → History) → net_of (after_each net history) ≡ net
  its_ports [] history = refl
  its_ports (ports ∷ net) history = ap (λ (rest : Internet). ports ∷ rest) (its_ports net (λ k. history (suc k)))

  at_each : (net : Internet) (history : ℕ → History) (k : ℕ) → k < length net → router_at (after_each net history) k ≡ router_now (ports_of net k) most_routes (history k)
  at_each [] history k below = absurd (omega (arith, below))
  at_each (ports ∷ net) history zero below = refl
  at_each (ports ∷ net) history (suc k) below = at_each net (λ k. history (suc k)) k (omega (arith, below))

  all_right : (net : Internet) (history : ℕ → History) → ((k : ℕ) → IsRouter (router_now (ports_of net k) most_routes (history k)))
      → AllByRecursion IsRouter (after_each net history)
  all_right [] history right = tt
  all_right (ports ∷ net) history right = (right 0, all_right net (λ k. history (suc k)) (λ k. right (suc k)))

-- ---- what is received of what a router sends on

-- a reception, as it waits
abbrev waits : Copy → Delivery
waits c = record { to = c.to; bytes = c.bytes }

module _ (wire : Wire) (laws : Relaying) (over : SentOn) (routers : List Router) (made : IsInternet (net_of routers)) (right : AllByRecursion IsRouter routers)
    (most_routes most_services : ℕ) where
  abbrev net : Internet
  net = net_of routers

  abbrev weigh : List Delivery → ℕ
  weigh ds = sum_by (w net most_routes most_services) ds

  abbrev copy_weighs : Copy → ℕ
  copy_weighs c = w net most_routes most_services (waits c)

  abbrev says : Parts → ℕ
  says p = said net most_routes most_services p

  -- those that receive it
  received_are : (c : Copy) (s : Sent) (tos : List Place)
      → sum_by (w net most_routes most_services) (map (λ to. record { to = to; bytes = s.bytes }) tos) ≡ sum_by copy_weighs (map (λ to. record { parent = Some 0; to = to; bytes = s.bytes }) tos)
  received_are c s tos = grind (arith, common_steps, sum_by-cons, w)

  all_received : (c : Copy) (ss : List Sent) → weigh (flat_map (deliveries_of net c.to.router) ss) ≡ sum_by copy_weighs (flat_map (receivers routers 0 c) ss)
  all_received c [] = omega arith
  all_received c (s ∷ ss) = grind (arith, all_received c ss, received_are, sum_by-append, w)

  -- ---- a propagated packet, as in its tree

  all_weigh : (c : Copy) (p : Parts) → IsBytes c.bytes → IsPacket c.bytes p → is_propagated p.header ≡ true → copy_weighs c ≡ weight net c
  all_weigh c p bytes packet all =
      as_read net most_routes most_services (waits c) p ((laws.packet_read c.bytes p bytes).1 packet)
      ∙ ap (λ (b : Bool). if b then most net (crossed_places - p.header.control)
      else if is_local (port_of net c.to) p.header.destination.network then says p
      else (most_routers - p.header.control) + max 1 (most_on_network net - 1) * says p) all
      ∙ sym (all_weighs laws net c p bytes packet all)

  each_weighs : (old : ℕ) (ks : List Copy) → AllByRecursion (spreading.IsLive wire laws over routers made right old) ks → sum_by copy_weighs ks ≡ weights net ks
  each_weighs old [] all = omega arith
  each_weighs old (k ∷ ks) all =
      let is = all.0 in
      let one = all_weigh k is.packet is.bytes is.is is.all in
      let rest = each_weighs old ks all.1 in
      let sum = sum_by-cons copy_weighs k ks in
      omega (arith, one, rest, sum)

  -- ---- a packet for one network

  module _ (differ : NodesDiffer net) (c : Copy) (can : CanCome net c) (p : Parts) (at : following.IsOne wire laws over routers made right c p) where
    abbrev times : ℕ
    times = max 1 (most_on_network net - 1)

    one_weighs : (k : Copy) (q : Parts) (local : Bool) → following.IsOne wire laws over routers made right k q → is_local (port_of net k.to) q.header.destination.network ≡ local
        → copy_weighs k ≡ (if local then says q else (most_routers - q.header.control) + times * says q)
    one_weighs k q local is here = plain_weighs net most_routes most_services (waits k) q local ((laws.packet_read k.bytes q is.bytes).1 is.packet) is.one here

    some_times : says p ≤ times * says p
    some_times = grind arith

    module _ (s : Sent) (f : following.Passed wire laws over routers made right c p s) where
      came : copy_weighs c ≡ (most_routers - p.header.control) + times * says p
      came =
          let P : List Port → Type 0 = λ ports. is_far (port_at ports c.to.port) p.header ≡ true in
          let far : is_far (port_of net c.to) p.header ≡ true = subst P (sym (ports_same routers c.to.router)) f.far in
          let beyond = not-true (is_local (port_of net c.to) p.header.destination.network)
          (and_parts (not (is_propagated p.header)) (not (is_local (port_of net c.to) p.header.destination.network)) far).1 in
          one_weighs c p false at beyond

      -- on a port of its network
      near : (port_at (router_at routers c.to.router).ports s.port).network.0 ≡ p.header.destination.network.0
          → AllByRecursion (λ k. copy_weighs k ≤ says p) (receivers routers 0 c s)
      near here =
          let from : Place = record { router = c.to.router; port = s.port } in
          let copy : Place → Copy = λ to. record { parent = Some 0; to = to; bytes = s.bytes } in
          all-map (λ to. IsPlace net to × (receives net from s.link to ≡ true)) (λ k. copy_weighs k ≤ says p) copy
          (λ to there.
          let is = following.child_is wire laws over routers made right c p at s f (copy to) refl in
          let near = following.near_there wire laws over routers made right c p at s f here to (receives_is net from s.link to there.1).network in
          let local : is_local (port_of net to) p.header.destination.network ≡ true =
          or_right _ (p.header.destination.network.0 == (port_of net to).network.0) (eq-eqb p.header.destination.network.0 (port_of net to).network.0 near) in
          let weighed = one_weighs (copy to) (forwarded p) true is local in
          omega (arith, weighed))
          (delivered net from s.link) (delivered_within net from s.link)

      -- on any
      one_router_more : (k : Copy) → following.IsOne wire laws over routers made right k (forwarded p) → copy_weighs k ≤ (most_routers - (p.header.control + 1)) + times * says p
      one_router_more k is = by (is_local (port_of net k.to) p.header.destination.network) refl
        where
          by : (local : Bool) → is_local (port_of net k.to) p.header.destination.network ≡ local → copy_weighs k ≤ (most_routers - (p.header.control + 1)) + times * says p
          by true here = let weighed = one_weighs k (forwarded p) true is here in let some = some_times in omega (arith, weighed, some)
          by false far = let weighed = one_weighs k (forwarded p) false is far in omega (arith, weighed)

      sent_light : sum_by copy_weighs (receivers routers 0 c s) + 1 ≤ copy_weighs c
      sent_light =
          let weighed = came in
          let few = f.few in
          elim (by_port_or_node (router_at routers c.to.router).ports (router_at routers c.to.router).up (router_at routers c.to.router).routes
          p.header.destination (record { port = s.port; link = s.link }) (spreading.router_is routers right c.to.router).table f.way) [
            | inl here ↦
                let light = sum_few copy_weighs (says p) (receivers routers 0 c s) (near here) in
                let reached = following.few_receive wire laws over routers made right c p at s f 0 in
                let fewer : length (receivers routers 0 c s) ≤ times = omega (arith, reached) in
                let product = mul-le-mul_right (says p) fewer in
                omega (arith, weighed, few, light, product)
            | inr one ↦
                let each = (most_routers - (p.header.control + 1)) + times * says p in
                let light = sum_few copy_weighs each (receivers routers 0 c s)
                (all_then (λ k. following.IsOne wire laws over routers made right k (forwarded p) × IsPlace net k.to) (λ k. copy_weighs k ≤ each)
                (λ k is. one_router_more k is.0) (receivers routers 0 c s) (following.received wire laws over routers made right c p at s f 0)) in
                let single = following.one_node wire laws over routers made right c p at s f differ one 0 in
                let product = mul-le-mul_right each single in
                let once = one-mul each in
                omega (arith, weighed, few, light, product, once)
          ]

    all_sent_light : (ss : List Sent) → AllByRecursion (following.Passed wire laws over routers made right c p) ss → length ss ≤ 1
        → sum_by copy_weighs (flat_map (receivers routers 0 c) ss) + 1 ≤ copy_weighs c
    all_sent_light [] all few = at_least_one net most_routes most_services (waits c)
    all_sent_light (s ∷ t ∷ ss) all few = absurd (omega (arith, few))
    all_sent_light (s ∷ []) all few = rw (append-nil (receivers routers 0 c s)) (sent_light s all.0)

  -- ---- any bytes

  pub sent_on_light : NodesDiffer net → (c : Copy) → CanCome net c → weigh (flat_map (deliveries_of net c.to.router) (forwards routers c)) + 1 ≤ copy_weighs c
  sent_on_light differ c can =
      let same = all_received c (forwards routers c) in
      let light = read_as (packet_of c.bytes) refl in
      omega (arith, same, light)
    where
      by : (p : Parts) → IsPacket c.bytes p → (all : Bool) → is_propagated p.header ≡ all → sum_by copy_weighs (children routers 0 c) + 1 ≤ copy_weighs c
      by p packet true all =
          let live : spreading.IsLive wire laws over routers made right p.header.control c = record { packet = p; bytes = can.bytes; is = packet; all = all; old = omega arith } in
          let whole = all_weigh c p can.bytes packet all in
          let each = each_weighs (p.header.control + 1) (children routers 0 c) (spreading.children_live wire laws over routers made right p.header.control c live 0) in
          let fall = never_rises wire laws over routers made right c can 0 differ in
          omega (arith, whole, each, fall)
      by p packet false one =
          let at : following.IsOne wire laws over routers made right c p = record { bytes = can.bytes; packet = packet; one = one } in
          all_sent_light differ c can p at (forwards routers c) (following.passed wire laws over routers made right c p at) (following.once wire laws over routers made right c p at)

      read_as : (q : Result Parts PacketFault) → packet_of c.bytes ≡ q → sum_by copy_weighs (children routers 0 c) + 1 ≤ copy_weighs c
      read_as (Ok p) read = by p ((laws.packet_read c.bytes p can.bytes).0 read) (is_propagated p.header) refl
      read_as (Err fault) read =
          let none = ap (λ (ss : List Sent). sum_by copy_weighs (flat_map (receivers routers 0 c) ss)) (unread routers c fault read) in
          let one = at_least_one net most_routes most_services (waits c) in
          omega (arith, none, one)

module _ (wire : Wire) (relaying : Relaying) (over : SentOn) (laws : Layouts) (net : Internet) (is : IsInternet net) (differ : NodesDiffer net)
    (most_routes most_services : ℕ) (histories : List History) (are : AreHistories net histories)
    (right : (k : ℕ) → IsRouter (router_now (ports_of net k) most_routes (history_of histories k))) (d : Delivery) (delivery : IsDelivery net d) where
  abbrev router : ℕ
  router = d.to.router

  abbrev number : ℕ
  number = d.to.port

  abbrev ports : List Port
  ports = ports_of net router

  abbrev history : History
  history = history_of histories router

  abbrev sent : List Sent
  sent = sents net most_routes most_services histories d

  abbrev heard_now : Option Heard
  heard_now = outlays.heard_now ports most_routes most_services history number d.bytes

  abbrev held_before : ℕ
  held_before = outlays.held_before ports most_routes most_services history number d.bytes

  abbrev held_now : ℕ
  held_now = outlays.held_now ports most_routes most_services history number d.bytes

  module _ (unheard : heard_now ≡ None) where
    abbrev before : Holding
    before = outlays.before ports most_routes most_services history number d.bytes

    abbrev after : Holding
    after = outlays.after ports most_routes most_services history number d.bytes

    -- it sends it on, as in the tree of the packet
    on_its_way : sent ≡ sent_on (router_now ports most_routes history) number d.bytes
    on_its_way = ap judged unheard
      where
        judged : Option Heard → List Sent
        judged o = elim (why ports before.up before.routes (running history) number d.bytes) [
          | Some reason ↦ []
          | None ↦ elim o [
            | Some message ↦ heard_sends ports before after number message
            | None ↦ elim (packet_of d.bytes) [ Ok p ↦ relayed ports before.up before.routes number p | Err fault ↦ [] ]
          ]
        ]

    abbrev Light : Internet → List Sent → Type 0
    Light n ss = sum_by (w n most_routes most_services) (flat_map (deliveries_of n router) ss) + 1 ≤ w n most_routes most_services d

    light : Light net sent
    light =
        let routers = after_each most_routes net (history_of histories) in
        let same = its_ports most_routes net (history_of histories) in
        let at = at_each most_routes net (history_of histories) router (there net laws is most_routes most_services histories are d delivery) in
        let tree : Light (net_of routers) (sent_on (router_at routers router) number d.bytes) =
        sent_on_light wire relaying over routers (subst IsInternet (sym same) is) (all_right most_routes net (history_of histories) right) most_routes most_services
        (subst NodesDiffer (sym same) differ) (root d.to d.bytes)
        (subst (λ (n : Internet). CanCome n (root d.to d.bytes)) (sym same) (record { bytes = delivery.bytes; there = delivery.place })) in
        let here : Light net (sent_on (router_at routers router) number d.bytes) =
        subst (λ (n : Internet). Light n (sent_on (router_at routers router) number d.bytes)) same tree in
        subst (Light net) (ap (λ (r : Router). sent_on r number d.bytes) at ∙ sym on_its_way) here

    pub unheard_lighter : most_hearers net * held_now + sum_by (w net most_routes most_services) (sent_for net most_routes most_services histories d) + 1
        ≤ most_hearers net * held_before + w net most_routes most_services d
    unheard_lighter =
        let stays = outlays.all_stays ports most_routes most_services history number d.bytes (ap (routes_heard ports number) unheard) (ap (services_heard number) unheard) in
        let held = ap (λ (n : ℕ). most_hearers net * n) stays in
        let all = light in
        omega (arith, held, all)
