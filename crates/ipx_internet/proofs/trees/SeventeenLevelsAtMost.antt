-- No tree has more than seventeen levels: a packet of the last one has been sent on sixteen times.
use Rattle.std.proofs.Common.{◌≡◌, refl, sym, ap, subst, ℕ, zero, suc, ◌+◌, ◌<◌, ◌≤◌, Some, Ok, Err, Result, List, [], ◌∷◌, ◌++◌, length, inl, inr, arith, add-one}
use Rattle.std.specs.List.{AllByRecursion}
use Rattle.ipx_wire.specs.Crossed.{IsNetwork}
use Rattle.ipx_wire.specs.Forward.{forwarded, propagated}
use Rattle.ipx_wire.specs.Packet.{Parts, IsPacket, packet_of}
use Rattle.ipx_wire.specs.Piece.{IsBytes}
use Rattle.ipx_wire.specs.declared.network.Network.{Network}
use Rattle.ipx_wire.specs.declared.packet.PacketFault.{PacketFault}
use Rattle.ipx_router.specs.Numbers.{most_routers}
use Rattle.ipx_router.specs.Packets.{IsRelayed}
use Rattle.ipx_router.specs.Port.{Port, port_at}
use Rattle.ipx_router.specs.Relays.{Sent}
use Rattle.ipx_internet.specs.Delivery.{delivered}
use Rattle.ipx_internet.specs.Internet.{Place, IsPlace, IsInternet}
use Rattle.ipx_internet.specs.Tree.{Router, IsRouter, Copy, net_of, router_at, forwards, receivers, children, next_level, levels, joined, tree_to, IsTree}
use Rattle.ipx_internet.proofs.lists.EachElement.{all_of, all_then, all-map, all-flat_map, holds_of}
use Rattle.ipx_internet.proofs.packets.SentOnIsBytes.{SentOn, forwarded_bytes, propagated_bytes}
use Rattle.ipx_internet.proofs.packets.SentOnReadAgain.{Wire, read_forwarded, read_propagated}
use Rattle.ipx_internet.proofs.trees.DirectedIsBounded.{IsLast, nothing_next, unread}
use Rattle.ipx_internet.proofs.trees.NextLevelIsBounded.{Relaying, sends, next_all}
use Rattle.ipx_internet.proofs.trees.PropagatedGoesElsewhere.{place_network}
use Rattle.ipx_internet.proofs.trees.PropagatedIsBounded.{ports_same, router_is}

module _ (w : Wire) (laws : Relaying) (over : SentOn) (routers : List Router) (made : IsInternet (net_of routers)) (right : AllByRecursion IsRouter routers) where
  abbrev router_of : Copy → Router
  router_of c = router_at routers c.to.router

  -- bytes that are no packet, or one that was sent on so often
  unfoldable pub IsOld : ℕ → List ℕ → Type 0
  IsOld k bytes = IsBytes bytes × ((p : Parts) → IsPacket bytes p → k ≤ p.header.control)

  module _ (k : ℕ) (c : Copy) (old : IsOld k c.bytes) where
    -- what is sent on was sent on once more, and not too often
    IsOlder : Sent → Type 0
    IsOlder s = IsOld (k + 1) s.bytes × (k < most_routers)

    older_by : (s : Sent) → IsRelayed (router_of c).ports (router_of c).up (router_of c).routes c.to.port c.bytes s → IsOlder s
    unfolding IsOld IsOlder
    older_by s relayed = elim relayed [
      | inl f ↦
          let few = f.few in
          let was = old.1 f.packet f.is in
          let read = read_forwarded w c.bytes f.packet f.is f.few in
          let B : List ℕ → Type 0 = λ b. IsBytes b × ((p : Parts) → IsPacket b p → k + 1 ≤ p.header.control) in
          let after : f.packet.header.control + 1 ≤ 256 = omega (arith, few) in (
            subst B (sym f.written) (
              forwarded_bytes over c.bytes f.packet old.0 f.is f.few,
              λ q is. subst (λ (r : Parts). k + 1 ≤ r.header.control) (w.one_packet _ (forwarded f.packet) q read is) (omega (arith, was)),
            ),
            omega (arith, few, was),
          )
      | inr f ↦
          let free = f.crossed.free in
          let was = old.1 f.packet f.is in
          let came : Network = (port_at (router_of c).ports c.to.port).network in
          let goes : Network = (port_at (router_of c).ports s.port).network in
          let from : Place = record { router = c.to.router; port = s.port } in
          let P : List Port → Type 0 = λ ports. s.port < length ports in
          let there : IsPlace (net_of routers) from =
          subst P (sym (ports_same routers c.to.router))
          (holds_of (λ j. j < length (router_of c).ports) s.port (router_of c).up (router_is routers right c.to.router).within f.leaves.leaves_up) in
          let N : List Port → Type 0 = λ ports. IsNetwork (port_at ports s.port).network in
          let number_of : IsNetwork goes = subst N (ports_same routers c.to.router) (place_network (net_of routers) made from there) in
          let read = read_propagated w c.bytes f.packet f.is came goes f.networks f.crossed number_of in
          let B : List ℕ → Type 0 = λ b. IsBytes b × ((p : Parts) → IsPacket b p → k + 1 ≤ p.header.control) in (
            subst B (sym f.written) (
              propagated_bytes over c.bytes f.packet old.0 f.is came goes f.networks f.crossed,
              λ q is. subst (λ (r : Parts). k + 1 ≤ r.header.control) (w.one_packet _ (propagated came goes f.packet) q read is) (omega (arith, was)),
            ),
            omega (arith, free, was),
          )
    ]

    older : AllByRecursion IsOlder (forwards routers c)
    unfolding IsOld
    older = by (packet_of c.bytes) refl
      where
        by : (q : Result Parts PacketFault) → packet_of c.bytes ≡ q → AllByRecursion IsOlder (forwards routers c)
        by (Err fault) read = subst (λ (ss : List Sent). AllByRecursion IsOlder ss) (sym (unread routers c fault read)) tt
        by (Ok p) read =
            let is = (laws.packet_read c.bytes p old.0).0 read in
            all_then (IsRelayed (router_of c).ports (router_of c).up (router_of c).routes c.to.port c.bytes) IsOlder older_by (forwards routers c)
            (sends laws (router_of c) (router_is routers right c.to.router) c.to.port c.bytes old.0 p is).each

    pub children_older : (number : ℕ) → AllByRecursion (λ x. IsOld (k + 1) x.bytes) (children routers number c)
    unfolding IsOlder
    children_older number =
        all-flat_map IsOlder (λ x. IsOld (k + 1) x.bytes) (receivers routers number c)
        (λ s is. all-map (λ to. Unit {0}) (λ x. IsOld (k + 1) x.bytes) (λ to. record { parent = Some number; to = to; bytes = s.bytes }) (λ to any. is.0)
        (delivered (net_of routers) (record { router = c.to.router; port = s.port }) s.link)
        (all_of (λ to. Unit {0}) (λ to. tt) (delivered (net_of routers) (record { router = c.to.router; port = s.port }) s.link)))
        (forwards routers c) older

    last : most_routers ≤ k → IsLast routers c
    unfolding IsOlder
    last full = by (forwards routers c) older
      where
        by : (ss : List Sent) → AllByRecursion IsOlder ss → ss ≡ []
        by [] all = refl
        by (s ∷ ss) all = let few = all.0.1 in absurd (omega (arith, few, full))

  ends : (n k first : ℕ) (level : List Copy) → most_routers ≤ n + k → AllByRecursion (λ c. IsOld k c.bytes) level
      → joined (levels routers (suc n) first level) ≡ joined (levels routers (suc (suc n)) first level)
  ends zero k first level enough old =
      let none = nothing_next routers first level
      (all_then (λ c. IsOld k c.bytes) (IsLast routers) (λ c is. last k c is (omega (arith, enough))) level old) in
      ap (λ (next : List Copy). level ++ (next ++ [])) (sym none)
  ends (suc n) k first level enough old =
      ap (λ (rest : List Copy). level ++ rest)
      (ends n (k + 1) (first + length level) (next_level routers first level) (omega (arith, enough))
      (next_all routers (λ c. IsOld k c.bytes) (λ c. IsOld (k + 1) c.bytes) (λ c number is. children_older k c is number) first level old))

  pub whole : (c : Copy) (n : ℕ) → IsBytes c.bytes → most_routers < n → IsTree routers c (tree_to routers n c)
  unfolding IsOld
  whole c zero bytes enough = absurd (omega (arith, enough))
  whole c (suc n) bytes enough = record {
    depth = suc n;
    all = refl;
    whole = rw (add-one (suc n)) (ends n 0 0 (c ∷ []) (omega (arith, enough)) ((bytes, λ p is. omega arith), tt));
  }
