-- How large the tree of a propagated packet gets. All receptions of one level have the same transport control. It goes on to each
-- other port of a router and each other port of its network, at most, and eight times at most.
use Rattle.std.proofs.lemmas.Grind.{common_steps}
use Rattle.std.proofs.Common.{◌≡◌, ◌≢◌, sym, subst, ℕ, zero, suc, ◌+◌, ◌-◌, ◌*◌, ◌<◌, ◌≤◌, ◌==◌, Some, true, false, List, [], ◌∷◌, length, map, flat_map, inl, inr, arith, length-append, mul-le-mul_right, mul-one, mul-zero, one-mul}
use Rattle.std.specs.List.{AllByRecursion, list_any}
use Rattle.std.proofs.lemmas.Bool.{and_parts, not-true, both_ways}
use Rattle.std.proofs.lemmas.List.{length-map}
use Rattle.ipx_wire.specs.Crossed.{IsNetwork, IsCrossed}
use Rattle.ipx_wire.specs.Forward.{propagated}
use Rattle.ipx_wire.specs.Numbers.{crossed_places}
use Rattle.ipx_wire.specs.Packet.{Parts, IsPacket}
use Rattle.ipx_wire.specs.Piece.{IsBytes}
use Rattle.ipx_wire.specs.Write.{packet_bytes}
use Rattle.ipx_wire.specs.declared.network.Network.{Network}
use Rattle.ipx_router.specs.Packets.{IsRelayed}
use Rattle.ipx_router.specs.Port.{Port, port_at, is_up, numbers}
use Rattle.ipx_router.specs.Relays.{Sent}
use Rattle.ipx_router.specs.Why.{is_propagated}
use Rattle.ipx_internet.specs.Delivery.{delivered}
use Rattle.ipx_internet.specs.Different.{AreDifferent}
use Rattle.ipx_internet.specs.Internet.{Internet, Place, ports_of, IsPlace, IsInternet}
use Rattle.ipx_internet.specs.Most.{most, most_of, most_ports, most_on_network}
use Rattle.ipx_internet.specs.Tree.{Router, IsRouter, Copy, net_of, router_at, forwards, receivers, children, next_level, levels, joined, tree_to}
use Rattle.ipx_internet.proofs.lists.EachElement.{all_of, all_or, all_then, all-map, all-flat_map, all_mapped, holds_of, no_more_than}
use Rattle.ipx_internet.proofs.lists.HowManyPass.{flat_map_few, is_number, length-numbers}
use Rattle.ipx_internet.proofs.packets.SentOnIsBytes.{SentOn, propagated_bytes}
use Rattle.ipx_internet.proofs.packets.SentOnReadAgain.{Wire, read_propagated}
use Rattle.ipx_internet.proofs.places.FewOnANetwork.{delivered_few, router_small}
use Rattle.ipx_internet.proofs.trees.NextLevelIsBounded.{Relaying, Sends, sends, next_few, next_all, grown}
use Rattle.ipx_internet.proofs.trees.PropagatedGoesElsewhere.{place_network}

-- the ports of a router of the internet are its ports
pub ports_same : (routers : List Router) (number : ℕ) → ports_of (net_of routers) number ≡ (router_at routers number).ports
ports_same routers number = grind (arith, common_steps)

-- a router that there is or isn't
pub router_is : (routers : List Router) → AllByRecursion IsRouter routers → (number : ℕ) → IsRouter (router_at routers number)
router_is routers all number = grind (arith, all_or)

-- how a packet for all networks is sent on
pub record SpreadBy (r : Router) (number : ℕ) (p : Parts) (s : Sent) : Type 0 where
  pub networks : List Network
  pub crossed : IsCrossed p.header.control p.payload networks
  pub other : s.port ≢ number
  pub comes_up : is_up r.up number ≡ true
  pub leaves_up : is_up r.up s.port ≡ true
  pub written : s.bytes ≡ packet_bytes (propagated (port_at r.ports number).network (port_at r.ports s.port).network p)

module _ (w : Wire) (laws : Relaying) (over : SentOn) (routers : List Router) (made : IsInternet (net_of routers)) (right : AllByRecursion IsRouter routers) where
  abbrev net : Internet
  net = net_of routers

  abbrev degree : ℕ
  degree = (most_ports net - 1) * (most_on_network net - 1)

  -- a reception of a propagated packet with so much transport control or more
  pub record IsLive (k : ℕ) (c : Copy) : Type 0 where
    pub packet : Parts
    pub bytes : IsBytes c.bytes
    pub is : IsPacket c.bytes packet
    pub all : is_propagated packet.header ≡ true
    pub old : k ≤ packet.header.control

  module _ (k : ℕ) (c : Copy) (live : IsLive k c) where
    abbrev p : Parts
    p = live.packet

    abbrev r : Router
    r = router_at routers c.to.router

    abbrev of_r : IsRouter r
    of_r = router_is routers right c.to.router

    spread_by : (s : Sent) → IsRelayed r.ports r.up r.routes c.to.port c.bytes s → SpreadBy r c.to.port p s
    spread_by s relayed = elim relayed [
      | inr f ↦
          let P : Parts → Type 0 = λ q. SpreadBy r c.to.port q s in
          subst P (w.one_packet c.bytes f.packet p f.is live.is)
          (record { networks = f.networks; crossed = f.crossed; other = f.other; comes_up = f.leaves.comes_up; leaves_up = f.leaves.leaves_up; written = f.written })
      | inl f ↦
          let P : Parts → Type 0 = λ q. is_propagated q.header ≡ false in
          let one = not-true (is_propagated f.packet.header) (and_parts _ _ f.far).0 in
          absurd (both_ways (is_propagated p.header) (subst P (w.one_packet c.bytes f.packet p f.is live.is) one) live.all)
    ]

    sent : Sends laws r of_r c.to.port c.bytes live.bytes p live.is (forwards routers c)
    sent = sends laws r of_r c.to.port c.bytes live.bytes p live.is

    spread : AllByRecursion (SpreadBy r c.to.port p) (forwards routers c)
    spread = all_then (IsRelayed r.ports r.up r.routes c.to.port c.bytes) (SpreadBy r c.to.port p) spread_by (forwards routers c) sent.each

    port_there : (j : ℕ) → is_up r.up j ≡ true → j < length r.ports
    port_there j up = holds_of (λ j. j < length r.ports) j r.up of_r.within up

    place_there : (j : ℕ) → is_up r.up j ≡ true → IsPlace net (record { router = c.to.router; port = j })
    place_there j up = grind (arith, ports_same, port_there)

    -- fewer leave than the router has ports
    forwards_few : (ss : List Sent) → AllByRecursion (SpreadBy r c.to.port p) ss → AreDifferent (map (λ s. s.port) ss) → length ss ≤ most_ports net - 1
    forwards_few [] ss differ = omega arith
    forwards_few (s ∷ ss) all_spread differ =
        let ports : List ℕ = map (λ s. s.port) (s ∷ ss) in
        let counted =
        no_more_than (λ n. n) (λ a b e. e) (c.to.port ∷ ports) (numbers (length r.ports)) (
          all_mapped (λ j. j ≢ c.to.port) (λ s. s.port) (s ∷ ss)
              (all_then (SpreadBy r c.to.port p) (λ s. s.port ≢ c.to.port) (λ s f. f.other) (s ∷ ss) all_spread),
          differ,
        ) (
          is_number c.to.port (length r.ports) (port_there c.to.port all_spread.0.comes_up),
          all_mapped (λ j. list_any (λ y. y == j) (numbers (length r.ports)) ≡ true) (λ s. s.port) (s ∷ ss)
              (all_then (SpreadBy r c.to.port p) (λ s. list_any (λ y. y == s.port) (numbers (length r.ports)) ≡ true)
              (λ s f. is_number s.port (length r.ports) (port_there s.port f.leaves_up)) (s ∷ ss) all_spread),
        ) in
        let of_numbers = length-numbers (length r.ports) in
        let of_ports : length ports ≡ length (s ∷ ss) = length-map (s ∷ ss) (λ (s : Sent). s.port) in
        let P : List Port → Type 0 = λ ports. length ports ≤ most_ports net in
        let small : length r.ports ≤ most_ports net = subst P (ports_same routers c.to.router) (router_small net c.to.router) in
        omega (arith, counted, of_numbers, of_ports, small)

    pub children_few : (number : ℕ) → length (children routers number c) ≤ degree
    children_few number =
        let joined = flat_map_few (receivers routers number c) (most_on_network net - 1) (forwards routers c)
        (all_then (SpreadBy r c.to.port p) (λ s. length (receivers routers number c s) ≤ most_on_network net - 1)
        (λ s f.
        let from : Place = record { router = c.to.router; port = s.port } in
        let copy : Place → Copy = λ to. record { parent = Some number; to = to; bytes = s.bytes } in
        let same = length-map (delivered net from s.link) copy in
        let few = delivered_few net from s.link (place_there s.port f.leaves_up) in
        omega (arith, same, few))
        (forwards routers c) spread) in
        let few = mul-le-mul_right (most_on_network net - 1) (forwards_few (forwards routers c) spread sent.differ) in
        omega (arith, joined, few)

    -- none, from eight networks on
    pub no_children : crossed_places ≤ k → (number : ℕ) → length (children routers number c) ≤ 0
    no_children full number = by (forwards routers c) spread
      where
        by : (ss : List Sent) → AllByRecursion (SpreadBy r c.to.port p) ss → length (flat_map (receivers routers number c) ss) ≤ 0
        by [] none = omega arith
        by (s ∷ ss) some = let free = some.0.crossed.free in let old = live.old in absurd (omega (arith, free, old, full))

    pub children_live : (number : ℕ) → AllByRecursion (IsLive (k + 1)) (children routers number c)
    children_live number =
        all-flat_map (SpreadBy r c.to.port p) (IsLive (k + 1)) (receivers routers number c)
        (λ s f.
        let came : Network = (port_at r.ports c.to.port).network in
        let goes : Network = (port_at r.ports s.port).network in
        let from : Place = record { router = c.to.router; port = s.port } in
        let N : List Port → Type 0 = λ ports. IsNetwork (port_at ports s.port).network in
        let number_of : IsNetwork goes = subst N (ports_same routers c.to.router) (place_network net made from (place_there s.port f.leaves_up)) in
        let P : List ℕ → Type 0 = λ b. IsPacket b (propagated came goes p) in
        let read : IsPacket s.bytes (propagated came goes p) =
        subst P (sym f.written) (read_propagated w c.bytes p live.is came goes f.networks f.crossed number_of) in
        let B : List ℕ → Type 0 = λ b. IsBytes b in
        let are : IsBytes s.bytes = subst B (sym f.written) (propagated_bytes over c.bytes p live.bytes live.is came goes f.networks f.crossed) in
        let old = live.old in
        all-map (λ to. Unit {0}) (IsLive (k + 1)) (λ to. record { parent = Some number; to = to; bytes = s.bytes })
        (λ to any. record { packet = propagated came goes p; bytes = are; is = read; all = live.all; old = omega (arith, old) })
        (delivered net from s.link) (all_of (λ to. Unit {0}) (λ to. tt) (delivered net from s.link)))
        (forwards routers c) spread

  size : (m n k first : ℕ) (level : List Copy) → crossed_places ≤ n + k → AllByRecursion (IsLive k) level
      → length (joined (levels routers m first level)) ≤ length level * most_of degree n
  size zero n k first level enough live = omega arith
  size (suc m) zero k first level enough live =
      let next = next_level routers first level in
      let counted = length-append level (joined (levels routers m (first + length level) next)) in
      let none = next_few routers 0 first level (all_then (IsLive k) (λ c. (number : ℕ) → length (children routers number c) ≤ 0)
      (λ c is. no_children k c is (omega (arith, enough))) level live) in
      let rest = size m zero (k + 1) (first + length level) next (omega (arith, enough))
      (next_all routers (IsLive k) (IsLive (k + 1)) (λ c number is. children_live k c is number) first level live) in
      let a : length level * 0 ≡ 0 = mul-zero (length level) in
      let b : length next * 1 ≡ length next = mul-one (length next) in
      let d : length level * 1 ≡ length level = mul-one (length level) in
      omega (arith, counted, none, rest, a, b, d)
  size (suc m) (suc n) k first level enough live =
      let next = next_level routers first level in
      let counted = length-append level (joined (levels routers m (first + length level) next)) in
      let few = next_few routers degree first level (all_then (IsLive k) (λ c. (number : ℕ) → length (children routers number c) ≤ degree)
      (λ c is. children_few k c is) level live) in
      let rest = size m n (k + 1) (first + length level) next (omega (arith, enough))
      (next_all routers (IsLive k) (IsLive (k + 1)) (λ c number is. children_live k c is number) first level live) in
      let product = mul-le-mul_right (most_of degree n) few in
      let behind : length (joined (levels routers m (first + length level) next)) ≤ (length level * degree) * most_of degree n = omega (arith, rest, product) in
      let all_of_it = grown (length level) degree (most_of degree n) (length (joined (levels routers m (first + length level) next))) behind in
      omega (arith, counted, all_of_it)

  pub all_networks : (c : Copy) (p : Parts) (n : ℕ) → IsBytes c.bytes → IsPacket c.bytes p → is_propagated p.header ≡ true
      → length (tree_to routers n c) ≤ most net (crossed_places - p.header.control)
  all_networks c p n bytes packet propagates =
      let bound = size n (crossed_places - p.header.control) p.header.control 0 (c ∷ []) (omega arith)
      (record { packet = p; bytes = bytes; is = packet; all = propagates; old = omega arith }, tt) in
      let one : 1 * most_of degree (crossed_places - p.header.control) ≡ most_of degree (crossed_places - p.header.control) =
      one-mul (most_of degree (crossed_places - p.header.control)) in
      omega (arith, bound, one)
