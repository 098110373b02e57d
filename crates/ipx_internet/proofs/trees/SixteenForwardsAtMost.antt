-- A packet for one network has at most 16 forwards in its whole course.
--
-- A reception forwards it once at most. A forward to a port's own network is near for all that receive it, so none of them
-- forwards it again; any other is to one neighbour, so one reception at most goes on, with the transport control one higher.
use Rattle.std.proofs.Common.{◌≡◌, refl, sym, ap, ap₂, ◌∙◌, subst, ℕ, zero, suc, ◌+◌, ◌-◌, ◌<◌, ◌≤◌, ◌==◌, ◌⊎◌, not, Bool, true, false, List, [], ◌∷◌, length, filter, Some, inl, inr, arith}
use Rattle.std.specs.List.{AllByRecursion}
use Rattle.std.proofs.lemmas.Bool.{and_parts, or_parts, not-true, eqb-true, eqb-false, both_ways}
use Rattle.ipx_wire.specs.Forward.{forwarded}
use Rattle.ipx_wire.specs.Packet.{Parts, IsPacket}
use Rattle.ipx_wire.specs.Write.{packet_bytes}
use Rattle.ipx_router.specs.Numbers.{most_routers}
use Rattle.ipx_router.specs.Outgoing.{way_to}
use Rattle.ipx_router.specs.Port.{broadcast, same_node, is_local}
use Rattle.ipx_router.specs.Relays.{Sent}
use Rattle.ipx_router.specs.Why.{is_propagated, is_far}
use Rattle.ipx_internet.specs.Course.{IsInCourse, starts, goes_on}
use Rattle.ipx_internet.specs.Different.{AreDifferent}
use Rattle.ipx_internet.specs.Internet.{Internet, ports_of, port_of, network_of, IsInternet, NodesDiffer}
use Rattle.ipx_internet.specs.Log.{Sending, Reception, reception_at, outlet, IsForward, IsLog}
use Rattle.ipx_internet.proofs.lists.EachElement.{all_then, all_passed, differ-filter, length_parted, at_most_one}
use Rattle.ipx_internet.proofs.packets.SentOnReadAgain.{Wire, read_forwarded}
use Rattle.ipx_internet.proofs.places.OneReceiverOfANode.{receives_is, one_receiver}
use Rattle.ipx_internet.proofs.trees.OnePlaceToGo.{by_port_or_node, one_sent}

abbrev sending : ℕ → Sent → Sending
sending place sent = record { place = place; sent = sent }

-- ---- courses

-- a reception in a course is its start, or in the course of one that received a forward of the start
pub below : (log : List Reception) (start place : ℕ) → IsInCourse log start place
    → (place ≡ start) ⊎ ((child : ℕ) × (s : Sending) × (child < length log) × ((reception_at log child).origin ≡ Some s)
    × (s.place ≡ start) × IsInCourse log child place)
below log start place starts = inl refl
below log start place (goes_on s within origin course) = elim (below log start s.place course) [
  | inl e ↦ inr (place, s, within, origin, e, starts)
  | inr (child, t, there, from, e, deeper) ↦ inr (child, t, there, from, e, goes_on s within origin deeper)
]

module _ (w : Wire) (net : Internet) (is : IsInternet net) (differ : NodesDiffer net) (log : List Reception) (whole : IsLog net log) where
  -- where a course has a forward, its start has one
  active : (start place : ℕ) → IsInCourse log start place → (e : Sending) → IsForward net log e → e.place ≡ place
      → (s : Sending) × IsForward net log s × (s.place ≡ start)
  active start place course e forward at = elim (below log start place course) [
    | inl same ↦ (e, forward, at ∙ same)
    | inr (child, s, within, origin, from, deeper) ↦ (s, (whole.origins child s within origin).forward, from)
  ]

  -- ---- one forward

  -- how a packet for one network is sent on
  record Goes (s : Sending) (p : Parts) : Type 0 where
    pub far : is_far (port_of net (reception_at log s.place).to) p.header ≡ true
    pub few : p.header.control < most_routers
    pub way :
        way_to (ports_of net (reception_at log s.place).to.router) (reception_at log s.place).up (reception_at log s.place).routes p.header.destination
        ≡ Some (record { port = s.sent.port; link = s.sent.link })
    pub written : s.sent.bytes ≡ packet_bytes (forwarded p)

  goes : (s : Sending) (p : Parts) → IsForward net log s → IsPacket (reception_at log s.place).bytes p → is_propagated p.header ≡ false → Goes s p
  goes s p forward packet one = elim forward.relayed [
    | inl f ↦
        let P : Parts → Type 0 = λ q. Goes s q in
        subst P (w.one_packet (reception_at log s.place).bytes f.packet p f.is packet)
        (record { far = f.far; few = f.few; way = f.way; written = f.written })
    | inr f ↦
        let P : Parts → Type 0 = λ q. is_propagated q.header ≡ true in
        absurd (both_ways (is_propagated p.header) one (subst P (w.one_packet (reception_at log s.place).bytes f.packet p f.is packet) f.all))
  ]

  -- two forwards of one reception are one
  one_forward : (s t : Sending) (p : Parts) → s.place ≡ t.place → Goes s p → Goes t p → s ≡ t
  one_forward s t p e first second = by s.place t.place s.sent t.sent e first second
    where
      by : (k m : ℕ) (a b : Sent) → k ≡ m → Goes (sending k a) p → Goes (sending m b) p → sending k a ≡ sending m b
      by k m a b e first second =
          let P : ℕ → Type 0 = λ m. Goes (sending m b) p in
          let other = subst P (sym e) second in
          ap₂ sending e (one_sent (way_to (ports_of net (reception_at log k).to.router) (reception_at log k).up (reception_at log k).routes p.header.destination)
          (packet_bytes (forwarded p)) a b first.way other.way first.written other.written)

  -- ---- one that goes on

  -- what is received of a forward is the packet with its transport control one higher
  received : (child : ℕ) (s : Sending) (p : Parts) → child < length log → (reception_at log child).origin ≡ Some s
      → IsPacket (reception_at log s.place).bytes p → Goes s p → IsPacket (reception_at log child).bytes (forwarded p)
  received child s p within origin packet forward =
      let P : List ℕ → Type 0 = λ bytes. IsPacket bytes (forwarded p) in
      subst P (sym ((whole.origins child s within origin).same ∙ forward.written))
      (read_forwarded w (reception_at log s.place).bytes p packet forward.few)

  -- where it is forwarded again, it was sent to one node
  to_one_node : (child : ℕ) (s t : Sending) (p : Parts) → child < length log → (reception_at log child).origin ≡ Some s → s.place < length log
      → Goes s p → t.place ≡ child → Goes t (forwarded p) → same_node s.sent.link broadcast ≡ false
  to_one_node child s t p within origin there forward from again =
      let ports = ports_of net (reception_at log s.place).to.router in
      let delivery = receives_is net (outlet log s) s.sent.link (reception_at log child).to (whole.origins child s within origin).delivered in
      elim (by_port_or_node ports (reception_at log s.place).up (reception_at log s.place).routes p.header.destination
      (record { port = s.sent.port; link = s.sent.link }) (whole.tables s.place there) forward.way) [
        | inr one ↦ one
        | inl direct ↦
            let P : ℕ → Type 0 = λ k. is_far (port_of net (reception_at log k).to) p.header ≡ true in
            let far = subst P from again.far in
            let beyond = not-true _ (and_parts (not (is_propagated p.header))
            (not (is_local (port_of net (reception_at log child).to) p.header.destination.network)) far).1 in
            let other = eqb-false p.header.destination.network.0 (network_of net (reception_at log child).to).0 (or_parts _ _ beyond).1 in
            absurd (other (sym (ap (λ n. n.0) delivery.network ∙ direct)))
      ]

  -- of all receptions of one forward, one at most forwards it again
  one_child : (a b : ℕ) (s t u : Sending) (p : Parts) → a < length log → b < length log
      → (reception_at log a).origin ≡ Some s → (reception_at log b).origin ≡ Some s → s.place < length log → Goes s p
      → t.place ≡ a → Goes t (forwarded p) → u.place ≡ b → Goes u (forwarded p) → a ≡ b
  one_child a b s t u p at_a at_b from_a from_b there forward on_a goes_a on_b goes_b =
      let one = to_one_node a s t p at_a from_a there forward on_a goes_a in
      whole.once a b s at_a at_b from_a from_b
      (one_receiver w net is differ (outlet log s) s.sent.link (reception_at log a).to (reception_at log b).to one
      (whole.within a at_a) (whole.within b at_b)
      (receives_is net (outlet log s) s.sent.link (reception_at log a).to (whole.origins a s at_a from_a).delivered)
      (receives_is net (outlet log s) s.sent.link (reception_at log b).to (whole.origins b s at_b from_b).delivered))

  -- ---- all of them

  -- the forwards of a course
  abbrev IsOfCourse : ℕ → Sending → Type 0
  IsOfCourse start s = IsForward net log s × IsInCourse log start s.place

  -- a packet at a place of the log
  abbrev IsAt : ℕ → Parts → Type 0
  IsAt place p = IsPacket (reception_at log place).bytes p × (is_propagated p.header ≡ false)

  at_place : (a b : ℕ) (p : Parts) → a ≡ b → IsAt b p → IsAt a p
  at_place a b p e = subst (λ (k : ℕ). IsAt k p) (sym e)

  goes_from : (start : ℕ) (p : Parts) (s : Sending) → IsAt start p → s.place ≡ start → IsForward net log s → Goes s p
  goes_from start p s at here forward = let there = at_place s.place start p here at in goes s p forward there.0 there.1

  abbrev is_at : ℕ → Sending → Bool
  is_at start s = s.place == start

  -- a forward in the course, but of another reception than the start, is in the course of a reception that goes on
  record Deeper (start : ℕ) (p : Parts) (e : Sending) : Type 0 where
    pub child : ℕ
    pub first : Sending
    pub within : child < length log
    pub origin : (reception_at log child).origin ≡ Some first
    pub here : first.place ≡ start
    pub of_course : IsOfCourse child e
    pub goes_first : Goes first p
    pub next : Sending
    pub on : next.place ≡ child
    pub goes_next : Goes next (forwarded p)

  at_child : (start child : ℕ) (s : Sending) (p : Parts) → IsAt start p → child < length log → (reception_at log child).origin ≡ Some s → s.place ≡ start
      → IsAt child (forwarded p)
  at_child start child s p at within origin here =
      let there = at_place s.place start p here at in
      (received child s p within origin there.0 (goes s p (whole.origins child s within origin).forward there.0 there.1), at.1)

  deeper : (start : ℕ) (p : Parts) (e : Sending) → IsAt start p → IsOfCourse start e → (e.place ≡ start → ⊥) → Deeper start p e
  deeper start p e at of_course elsewhere = elim (below log start e.place of_course.1) [
    | inl here ↦ absurd (elsewhere here)
    | inr (child, s, within, origin, here, course) ↦
        let (next, forward, on) = active child e.place course e of_course.0 refl in
        record {
          child = child;
          first = s;
          within = within;
          origin = origin;
          here = here;
          of_course = (of_course.0, course);
          goes_first = goes_from start p s at here (whole.origins child s within origin).forward;
          next = next;
          on = on;
          goes_next = goes_from child (forwarded p) next (at_child start child s p at within origin here) on forward;
        }
  ]

  -- of any two such, it is the same reception
  same_child : (start : ℕ) (p : Parts) (e f : Sending) (a : Deeper start p e) (b : Deeper start p f) → a.child ≡ b.child
  same_child start p e f a b =
      let firsts = one_forward a.first b.first p (a.here ∙ sym b.here) a.goes_first b.goes_first in
      let from_b = b.origin ∙ sym (ap Some firsts) in
      one_child a.child b.child a.first a.next b.next p a.within b.within a.origin from_b
      (whole.origins a.child a.first a.within a.origin).forward.there a.goes_first a.on a.goes_next b.on b.goes_next

  -- the forwards of other receptions than the start are in the course of one of them
  others_few : (start : ℕ) (p : Parts) → IsAt start p → p.header.control < most_routers
      → ((child : ℕ) → IsAt child (forwarded p) → (forwards : List Sending) → AllByRecursion (IsOfCourse child) forwards → AreDifferent forwards
      → length forwards ≤ most_routers - (forwarded p).header.control)
      → (others : List Sending) → AllByRecursion (λ s. IsOfCourse start s × (not (is_at start s) ≡ true)) others → AreDifferent others
      → length others ≤ 15 - p.header.control
  others_few start p at few next [] all differ = omega arith
  others_few start p at few next (e ∷ others) all differ =
      let elsewhere : (f : Sending) → not (is_at start f) ≡ true → f.place ≡ start → ⊥ = λ f off. eqb-false f.place start (not-true (is_at start f) off) in
      let d : Deeper start p e = deeper start p e at all.0.0 (elsewhere e all.0.1) in
      let in_child : (f : Sending) → IsOfCourse start f × (not (is_at start f) ≡ true) → IsOfCourse d.child f =
      λ f both.
      let other : Deeper start p f = deeper start p f at both.0 (elsewhere f both.1) in
      subst (λ (k : ℕ). IsOfCourse k f) (same_child start p f e other d) other.of_course in
      let counted : length (e ∷ others) ≤ most_routers - (p.header.control + 1) =
      next d.child (at_child start d.child d.first p at d.within d.origin d.here) (e ∷ others)
      (all_then (λ s. IsOfCourse start s × (not (is_at start s) ≡ true)) (IsOfCourse d.child) in_child (e ∷ others) all) differ in
      omega (arith, counted)

  -- the start itself forwards the packet once
  here_few : (start : ℕ) (p : Parts) → IsAt start p → (here : List Sending) → AllByRecursion (λ s. IsOfCourse start s × (is_at start s ≡ true)) here
      → AreDifferent here → length here ≤ 1
  here_few start p at here all differ =
      at_most_one (λ s. IsOfCourse start s × (is_at start s ≡ true))
      (λ s t on_s on_t.
      let here_s = eqb-true s.place start on_s.1 in
      let here_t = eqb-true t.place start on_t.1 in
      one_forward s t p (here_s ∙ sym here_t) (goes_from start p s at here_s on_s.0.0) (goes_from start p t at here_t on_t.0.0))
      here all differ

  few_within : (n start : ℕ) (p : Parts) → most_routers ≤ n + p.header.control → IsAt start p → (forwards : List Sending)
      → AllByRecursion (IsOfCourse start) forwards
      → AreDifferent forwards → length forwards ≤ most_routers - p.header.control
  few_within n start p enough at [] all differ = omega arith
  few_within zero start p enough at (e ∷ forwards) all differ =
      let (first, forward, here) = active start e.place all.0.1 e all.0.0 refl in
      let few : p.header.control < most_routers = (goes_from start p first at here forward).few in
      absurd (omega (arith, few, enough))
  few_within (suc n) start p enough at (e ∷ forwards) all differ =
      let (first, forward, here) = active start e.place all.0.1 e all.0.0 refl in
      let few : p.header.control < most_routers = (goes_from start p first at here forward).few in
      let off : Sending → Bool = λ s. not (is_at start s) in
      let parted = length_parted (is_at start) (e ∷ forwards) in
      let one = here_few start p at (filter (is_at start) (e ∷ forwards)) (all_passed (IsOfCourse start) (is_at start) (e ∷ forwards) all)
      (differ-filter (is_at start) (e ∷ forwards) differ) in
      let others = others_few start p at few
      (λ child. few_within n child (forwarded p) (omega (arith, enough)))
      (filter off (e ∷ forwards)) (all_passed (IsOfCourse start) off (e ∷ forwards) all) (differ-filter off (e ∷ forwards) differ) in
      omega (arith, parted, one, others, few)

  pub one_network : (start : ℕ) (p : Parts) (forwards : List Sending) → IsPacket (reception_at log start).bytes p → is_propagated p.header ≡ false
      → AllByRecursion (IsOfCourse start) forwards → AreDifferent forwards → length forwards ≤ most_routers - p.header.control
  one_network start p forwards packet one all differ = few_within most_routers start p (omega arith) (packet, one) forwards all differ
