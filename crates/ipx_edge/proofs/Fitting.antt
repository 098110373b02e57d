-- A verdict on a packet has room, and does what the filter is defined to do.
use Rattle.std.proofs.Common.{◌≡◌, ◌∙◌, refl, sym, subst, ap, ap₂, arith, ℕ, zero, suc, ◌+◌, ◌-◌, ◌*◌, ◌/◌, ◌<◌, ◌≤◌, ◌&&◌, Bool, true, false, if◌then◌else◌, List, ◌∷◌, length, take, drop, Option, None, Some, Ok, Err, Result}
use Rattle.std.specs.List.{filter}
use Rattle.std.proofs.lemmas.List.{drop-drop}
use Rattle.std.proofs.Math.Nat.{mul-suc}
use Rattle.std.proofs.lemmas.Nat.{mul-le}
use Rattle.ipx_wire.specs.Header.{length_field}
use Rattle.ipx_wire.specs.Items.{items}
use Rattle.ipx_wire.specs.Packet.{Parts, packet_of}
use Rattle.ipx_wire.specs.Piece.{piece}
use Rattle.ipx_wire.specs.Rip.{RipParts, rip_of}
use Rattle.ipx_wire.specs.Sap.{sap_of}
use Rattle.ipx_wire.specs.declared.packet.PacketFault.{PacketFault}
use Rattle.ipx_wire.specs.declared.rip.RipFault.{RipFault}
use Rattle.ipx_wire.specs.declared.sap.Sap.{Sap}
use Rattle.ipx_wire.specs.declared.sap.Sap.TheVariants.{Query, Response}
use Rattle.ipx_wire.specs.declared.sap.SapFault.{SapFault}
use Rattle.ipx_wire.proofs.Items.{length-items}
use Rattle.ipx_router.specs.Port.{Port}
use Rattle.ipx_edge.specs.Filtered.{is_routing, is_advertising, lists_routes, lists_services, pieces, with_kept, without, route_passes, service_passes, filtered_in, filtered}
use Rattle.ipx_edge.specs.Rules.{names_packet, permits}
use Rattle.ipx_edge.specs.declared.listing.Listed.TheVariants.{Routes, Services}
use Rattle.ipx_edge.specs.declared.filtering.Verdict.{Verdict}
use Rattle.ipx_edge.specs.declared.filtering.Verdict.TheVariants.{Denied, Whole, Entries}
use Rattle.ipx_edge.specs.declared.rule.Rule.{Rule}
use Rattle.ipx_edge.specs.declared.rule.Way.{Way}
use Rattle.ipx_edge.specs.inside.Verdict.{listed_in, verdict, first, done, Fits}
use Rattle.ipx_edge.proofs.Advertised.{advertises}
use Rattle.ipx_edge.proofs.Headers.{data_piece}
use Rattle.ipx_edge.proofs.Packets.{reads, has_room}
use Rattle.ipx_edge.proofs.Routing.{lists}

-- ---- sizes

routes_sized : (payload : List ℕ) (r : Result RipParts RipFault) → rip_of payload ≡ r → lists_routes r ≡ true → (10 ≤ length payload) × (length payload ≤ 409)
routes_sized payload (Ok r) is true_is = let l = lists payload r is in (l.least, l.most)
routes_sized payload (Err fault) is true_is = grind arith

services_sized : (payload : List ℕ) (r : Result Sap SapFault) → sap_of payload ≡ r → lists_services r ≡ true → (66 ≤ length payload) × (length payload ≤ 513)
services_sized payload (Ok (Query nearest kind)) is true_is = grind arith
services_sized payload (Ok (Response nearest entries)) is true_is = let l = advertises payload nearest entries is in (l.least, l.most)
services_sized payload (Err fault) is true_is = grind arith

second : (a b : Bool) → (a && b) ≡ true → b ≡ true
second a b is = grind arith

-- ---- the pieces of data

pub items_same : (size n : ℕ) (a b : List ℕ) → ((k : ℕ) → k < n → take size (drop (size * k) a) ≡ take size (drop (size * k) b)) → items (take size) size n a ≡ items (take size) size n b
unfolding items
items_same size zero a b each = refl
items_same size (suc n) a b each =
    let none : size * 0 ≡ 0 = omega arith in
    let start = subst (λ (m : ℕ). take size (drop m a) ≡ take size (drop m b)) none (each 0 (omega arith)) in
    let next = λ (k : ℕ) (below : k < n).
    let order : size + size * k ≡ size * suc k = omega (arith, mul-suc size k) in
    ap (take size) (drop-drop (size * k) size a ∙ ap (λ (m : ℕ). drop m a) order)
    ∙ each (suc k) (omega (arith, below))
    ∙ ap (take size) (sym (drop-drop (size * k) size b ∙ ap (λ (m : ℕ). drop m b) order)) in
    ap₂ (λ (x : List ℕ) (xs : List (List ℕ)). x ∷ xs) start (items_same size n (drop size a) (drop size b) next)

-- number k is within n pieces
pub piece_room : (size k n whole : ℕ) → k < n → 32 + size * n ≤ whole → 32 + size * k + 0 + size ≤ whole
piece_room size k n whole below room = omega (arith, mul-le size (suc k) size n (omega arith) (omega (arith, below)), mul-suc size k, room)

plain : (size k : ℕ) → 32 + size * k + 0 ≡ 32 + size * k
plain size k = omega arith

same_pieces : (bytes : List ℕ) (p : Parts) (size count : ℕ) → packet_of bytes ≡ Ok p → 32 + size * count ≤ 30 + length p.payload
    → items (take size) size count (drop 2 p.payload) ≡ first size count bytes
same_pieces bytes p size count is room =
    let read = reads bytes p is in
    let n = length_field bytes in
    ap (λ (q : Parts). items (take size) size count (drop 2 q.payload)) read.parts
    ∙ items_same size count (drop 2 (drop 30 (take n bytes))) (drop 32 bytes)
    (λ k below.
    data_piece bytes n (size * k) 0 size (piece_room size k count n below (omega (arith, room, read.size)))
    ∙ ap (λ (m : ℕ). piece bytes m size) (plain size k)
    ∙ ap (take size) (sym (drop-drop (size * k) 32 bytes)))

without_is : (bytes : List ℕ) (p : Parts) (passes : List ℕ → Bool) (size count : ℕ) → packet_of bytes ≡ Ok p → 32 + size * count ≤ 30 + length p.payload
    → count ≡ (length p.payload - 2) / size
    → without passes size p.payload bytes ≡ with_kept count (filter passes (first size count bytes)) bytes
without_is bytes p passes size count is room all =
    let found : pieces size p.payload ≡ first size count bytes =
    ap (λ (m : ℕ). items (take size) size m (drop 2 p.payload)) (sym all) ∙ same_pieces bytes p size count is room in
    ap (λ (es : List (List ℕ)). with_kept (length es) (filter passes es) bytes) found
    ∙ ap (λ (m : ℕ). with_kept m (filter passes (first size count bytes)) bytes) (length-items (take size) size count (drop 32 bytes))

-- ---- verdicts

module _ (way : Way) (port : Port) (rules : List Rule) (bytes : List ℕ) where
  -- a verdict has room, and leaves what is defined
  abbrev Right : Verdict → Option (List ℕ) → Type 0
  Right v x = Fits v bytes × (done way rules v bytes ≡ x)

  right_by : (a b : Bool) (v w : Verdict) (x y : Option (List ℕ)) → (a ≡ true → Right v x) → (b ≡ true → Right w y)
      → Right (if a then v else if b then w else Whole) (if a then x else if b then y else Some bytes)
  right_by true b v w x y one other = one refl
  right_by false true v w x y one other = other refl
  right_by false false v w x y one other = (tt, refl)

  module _ (p : Parts) (is : packet_of bytes ≡ Ok p) where
    pub right : Right (listed_in way port p)
        (if is_routing way port p.header && lists_routes (rip_of p.payload) then without (route_passes way rules) 8 p.payload bytes
        else if is_advertising way port p.header && lists_services (sap_of p.payload) then without (service_passes way rules) 64 p.payload bytes
        else Some bytes)
    right =
        let routes = (length p.payload - 2) / 8 in
        let services = (length p.payload - 2) / 64 in
        let room = has_room bytes p is in
        right_by (is_routing way port p.header && lists_routes (rip_of p.payload)) (is_advertising way port p.header && lists_services (sap_of p.payload))
        (Entries Routes routes) (Entries Services services)
        (without (route_passes way rules) 8 p.payload bytes) (without (service_passes way rules) 64 p.payload bytes)
        (λ yes_is.
        let sized = routes_sized p.payload (rip_of p.payload) refl (second (is_routing way port p.header) (lists_routes (rip_of p.payload)) yes_is) in
        let fit : 32 + 8 * routes ≤ 30 + length p.payload = omega (arith, sized.0) in
        ((omega (arith, fit, room), omega (arith, fit, sized.1)), sym (without_is bytes p (route_passes way rules) 8 routes is fit refl)))
        (λ yes_is.
        let sized = services_sized p.payload (sap_of p.payload) refl (second (is_advertising way port p.header) (lists_services (sap_of p.payload)) yes_is) in
        let fit : 32 + 64 * services ≤ 30 + length p.payload = omega (arith, sized.0) in
        ((omega (arith, fit, room), omega (arith, fit, sized.1)), sym (without_is bytes p (service_passes way rules) 64 services is fit refl)))

  if_permitted : (t : Bool) (v : Verdict) (x : Option (List ℕ)) → done way rules v bytes ≡ x
      → done way rules (if t then v else Denied) bytes ≡ (if t then x else None)
  if_permitted true v x is = is
  if_permitted false v x is = refl

  done_in : (r : Result Parts PacketFault) → packet_of bytes ≡ r → done way rules (verdict way port rules r) bytes ≡ filtered_in way port rules r bytes
  done_in (Err fault) is = refl
  done_in (Ok p) is = if_permitted (permits (names_packet port p) rules) (listed_in way port p) _ (right p is).1

  pub done_is : done way rules (verdict way port rules (packet_of bytes)) bytes ≡ filtered way port rules bytes
  unfolding filtered
  done_is = done_in (packet_of bytes) refl
