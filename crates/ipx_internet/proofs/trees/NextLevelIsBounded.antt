-- How large the next level of a tree gets, and what a router sends on: what is listed of the packet, each time by another port.
use Rattle.std.proofs.Common.{◌≡◌, ◌↔◌, refl, sym, subst, ℕ, zero, suc, ◌+◌, ◌*◌, ◌≤◌, Bool, true, List, [], ◌∷◌, length, map, Option, Some, None, Result, Ok, Err, slice_get, arith, length-append}
use Rattle.std.specs.List.{AllByRecursion}
use Rattle.std.specs.List.Sorted.{IsStrictlyIncreasing}
use Rattle.ipx_wire.specs.Packet.{Parts, IsPacket, packet_of}
use Rattle.ipx_wire.specs.Piece.{IsBytes}
use Rattle.ipx_wire.specs.declared.packet.PacketFault.{PacketFault}
use Rattle.ipx_router.specs.Packets.{IsRelayed}
use Rattle.ipx_router.specs.Port.{Port, is_up}
use Rattle.ipx_router.specs.Relays.{Sent, relayed}
use Rattle.ipx_router.specs.Why.{why}
use Rattle.ipx_router.specs.declared.route_offer.RouteOffer.{RouteOffer}
use Rattle.ipx_router.specs.declared.why.Why.{Why}
use Rattle.ipx_internet.specs.Different.{AreDifferent}
use Rattle.ipx_internet.specs.Tree.{Router, IsRouter, Copy, sent_on, children, next_level, levels, joined}
use Rattle.ipx_internet.proofs.lists.EachElement.{all-append, all_listed, rising_differ}
use Rattle.ipx_internet.proofs.packets.ForwardsDiffer.{runs_then}

-- the laws of routers that trees rest on
pub record Relaying : Type 0 where
  pub packet_read : (bytes : List ℕ) (p : Parts) → IsBytes bytes → (packet_of bytes ≡ Ok p ↔ IsPacket bytes p)
  pub listed : (ports : List Port) (up : List ℕ) (routes : List RouteOffer) (number : ℕ) (bytes : List ℕ) (p : Parts) (k : ℕ) (s : Sent)
      → IsBytes bytes → AllByRecursion (λ r. is_up up r.port ≡ true) routes
      → why ports up routes true number bytes ≡ None → packet_of bytes ≡ Ok p
      → slice_get (relayed ports up routes number p) k ≡ Some s → IsRelayed ports up routes number bytes s
  pub all : (ports : List Port) (up : List ℕ) (routes : List RouteOffer) (number : ℕ) (bytes : List ℕ) (s : Sent)
      → IsBytes bytes → IsRelayed ports up routes number bytes s
      → (why ports up routes true number bytes ≡ None)
      × ((p : Parts) × (k : ℕ) × (packet_of bytes ≡ Ok p) × (slice_get (relayed ports up routes number p) k ≡ Some s))
  pub in_order : (ports : List Port) (up : List ℕ) (routes : List RouteOffer) (number : ℕ) (p : Parts)
      → IsStrictlyIncreasing up → IsStrictlyIncreasing (map (λ s. s.port) (relayed ports up routes number p))

-- ---- levels, whatever is sent

module _ (routers : List Router) where
  -- each reception has few children, so a level has few behind it
  pub next_few : (few : ℕ) (first : ℕ) (level : List Copy) → AllByRecursion (λ c. (number : ℕ) → length (children routers number c) ≤ few) level
      → length (next_level routers first level) ≤ length level * few
  next_few few first [] all = omega arith
  next_few few first (c ∷ level) all =
      let one = all.0 first in
      let rest = next_few few (first + 1) level all.1 in
      let joined = length-append (children routers first c) (next_level routers (first + 1) level) in
      omega (arith, one, rest, joined)

  -- no level is behind an empty one
  pub none_behind : (n first : ℕ) → length (joined (levels routers n first [])) ≡ 0
  none_behind zero first = refl
  none_behind (suc n) first = none_behind n (first + 0)

  -- what holds of children holds of the next level
  pub next_all : (P Q : Copy → Type 0) → ((c : Copy) (number : ℕ) → P c → AllByRecursion Q (children routers number c)) → (first : ℕ) (level : List Copy)
      → AllByRecursion P level → AllByRecursion Q (next_level routers first level)
  next_all P Q step first [] all = tt
  next_all P Q step first (c ∷ level) all =
      all-append Q (children routers first c) (next_level routers (first + 1) level) (step c first all.0) (next_all P Q step (first + 1) level all.1)

-- a level, and what the levels behind it have
pub grown : (l d m x : ℕ) → x ≤ (l * d) * m → l + x ≤ l * (1 + d * m)
grown l d m x h = grind arith

-- ---- what a router sends on

module _ (laws : Relaying) (r : Router) (is : IsRouter r) (number : ℕ) (bytes : List ℕ) (are : IsBytes bytes) (p : Parts) (packet : IsPacket bytes p) where
  -- nothing, or what is listed of the packet
  pub record Sends (ss : List Sent) : Type 0 where
    pub each : AllByRecursion (IsRelayed r.ports r.up r.routes number bytes) ss
    pub differ : AreDifferent (map (λ s. s.port) ss)

  pub sends : Sends (sent_on r number bytes)
  sends = by (why r.ports r.up r.routes r.running number bytes) (packet_of bytes) refl ((laws.packet_read bytes p are).1 packet)
    where
      by : (o : Option Why) (q : Result Parts PacketFault) → why r.ports r.up r.routes r.running number bytes ≡ o → q ≡ Ok p
          → Sends (elim o [ Some reason ↦ [] | None ↦ elim q [ Ok p ↦ relayed r.ports r.up r.routes number p | Err fault ↦ [] ] ])
      by (Some reason) q judged read = record { each = tt; differ = tt }
      by None q judged read =
          let runs : r.running ≡ true = runs_then r.ports r.up r.routes r.running number bytes judged in
          let undropped : why r.ports r.up r.routes true number bytes ≡ None = subst (λ (b : Bool). why r.ports r.up r.routes b number bytes ≡ None) runs judged in
          rw read
          (record {
            each =
                all_listed (IsRelayed r.ports r.up r.routes number bytes) (relayed r.ports r.up r.routes number p)
                (λ k s there. laws.listed r.ports r.up r.routes number bytes p k s are is.routes_up undropped ((laws.packet_read bytes p are).1 packet) there);
            differ = rising_differ (map (λ s. s.port) (relayed r.ports r.up r.routes number p)) (laws.in_order r.ports r.up r.routes number p is.rising);
          })

-- it is just what the relations say that a router sends on that runs
module _ (laws : Relaying) (r : Router) (is : IsRouter r) (number : ℕ) (bytes : List ℕ) (s : Sent) (are : IsBytes bytes) where
  -- what is sent on, by what the checks and the reader say
  abbrev sent_by : Option Why → Result Parts PacketFault → List Sent
  sent_by o q = elim o [ Some reason ↦ [] | None ↦ elim q [ Ok p ↦ relayed r.ports r.up r.routes number p | Err fault ↦ [] ] ]

  abbrev nothing_sent : List Sent
  nothing_sent = []

  none_in : (k : ℕ) → slice_get nothing_sent k ≡ Some s → (r.running ≡ true) × IsRelayed r.ports r.up r.routes number bytes s
  none_in k e = grind arith

  pub is_forward : (k : ℕ) → slice_get (sent_on r number bytes) k ≡ Some s → (r.running ≡ true) × IsRelayed r.ports r.up r.routes number bytes s
  is_forward k there = by (why r.ports r.up r.routes r.running number bytes) (packet_of bytes) refl refl there
    where
      by : (o : Option Why) (q : Result Parts PacketFault) → why r.ports r.up r.routes r.running number bytes ≡ o → packet_of bytes ≡ q
          → slice_get (sent_by o q) k ≡ Some s → (r.running ≡ true) × IsRelayed r.ports r.up r.routes number bytes s
      by (Some reason) q judged read there = none_in k there
      by None (Err fault) judged read there = none_in k there
      by None (Ok p) judged read there =
          let runs : r.running ≡ true = runs_then r.ports r.up r.routes r.running number bytes judged in
          let undropped : why r.ports r.up r.routes true number bytes ≡ None = subst (λ (b : Bool). why r.ports r.up r.routes b number bytes ≡ None) runs judged in
          (runs, laws.listed r.ports r.up r.routes number bytes p k s are is.routes_up undropped read there)

  pub is_sent_on : r.running ≡ true → IsRelayed r.ports r.up r.routes number bytes s → (k : ℕ) × (slice_get (sent_on r number bytes) k ≡ Some s)
  is_sent_on runs relays =
      let (undropped, (p, k, read, there)) = laws.all r.ports r.up r.routes number bytes s are relays in
      let passed : why r.ports r.up r.routes r.running number bytes ≡ None =
      subst (λ (b : Bool). why r.ports r.up r.routes b number bytes ≡ None) (sym runs) undropped in
      (k, by (why r.ports r.up r.routes r.running number bytes) (packet_of bytes) passed p k read there)
    where
      by : (o : Option Why) (q : Result Parts PacketFault) → o ≡ None → (p : Parts) (k : ℕ) → q ≡ Ok p
          → slice_get (relayed r.ports r.up r.routes number p) k ≡ Some s → slice_get (sent_by o q) k ≡ Some s
      by o q passed p k read there = rw passed (rw read there)
