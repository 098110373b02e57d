-- What stands in bytes with a network's number, piece by piece.
use Rattle.std.proofs.Common.{◌≡◌, ◌∙◌, refl, sym, subst, ap, ap₂, arith, ℕ, zero, suc, ◌+◌, ◌^◌, ◌<◌, ◌≤◌, ◌==◌, nat_lt, Bool, true, false, if◌then◌else◌, ◌&&◌, ◌⊎◌, inl, inr, List, length}
use Rattle.std.specs.Int.{to_be_bytes, from_be_bytes, w16, w32}
use Rattle.std.proofs.lemmas.Bool.{cases_eq}
use Rattle.std.proofs.lemmas.Nat.{from_be_bytes-to_be_bytes_4}
use Rattle.ipx_wire.specs.Numbers.{no_checksum, local_network}
use Rattle.ipx_wire.specs.Piece.{piece}
use Rattle.ipx_wire.specs.declared.network.Network.{Network}
use Rattle.ipx_router.specs.Port.{Port}
use Rattle.ipx_edge.specs.Places.{source_place, service_place, hops_place, with_at}
use Rattle.ipx_edge.specs.Numbered.{is_unnumbered, with_number, with_source, is_own_service, with_services}
use Rattle.ipx_edge.specs.Laws.{IsApart}
use Rattle.ipx_edge.proofs.Pieces.{length_with, before_with, behind_with, piece_with}

-- ---- one number

module _ (network : Network) (place : ℕ) (bytes : List ℕ) (behind : 2 ≤ place) (room : place + 4 ≤ length bytes) where
  abbrev one : List ℕ
  one = with_at place (to_be_bytes w32 network.0) bytes

  length_one : length one ≡ length bytes
  length_one = length_with place (to_be_bytes w32 network.0) bytes room

  some : 0 + 2 ≤ length one
  some = omega (arith, length_one, room)

  pub length_number : length (with_number network place bytes) ≡ length bytes
  length_number = length_with 0 (to_be_bytes w16 no_checksum) one some ∙ length_one

  pub apart_number : (i n : ℕ) → 2 ≤ i → IsApart i n place → piece (with_number network place bytes) i n ≡ piece bytes i n
  apart_number i n far (inl fits) =
      behind_with 0 (to_be_bytes w16 no_checksum) one some i n far ∙ before_with place (to_be_bytes w32 network.0) bytes room i n fits
  apart_number i n far (inr beyond) =
      behind_with 0 (to_be_bytes w16 no_checksum) one some i n far ∙ behind_with place (to_be_bytes w32 network.0) bytes room i n beyond

  pub piece_number : piece (with_number network place bytes) place 4 ≡ to_be_bytes w32 network.0
  piece_number =
      behind_with 0 (to_be_bytes w16 no_checksum) one some place 4 behind ∙ piece_with place (to_be_bytes w32 network.0) bytes room 4 refl

  pub checksum_number : piece (with_number network place bytes) 0 2 ≡ to_be_bytes w16 no_checksum
  checksum_number = piece_with 0 (to_be_bytes w16 no_checksum) one some 2 refl

-- ---- where it is filled in or not

-- of two lists the first or the second
either : (t : Bool) (P : List ℕ → Type 0) (x y : List ℕ) → P x → P y → P (if t then x else y)
either true P x y first second = first
either false P x y first second = second

-- the checksum of the first is none, or that of the second
abbrev pub SameOrNone : List ℕ → List ℕ → Type 0
SameOrNone a b = (piece a 0 2 ≡ to_be_bytes w16 no_checksum) ⊎ (piece a 0 2 ≡ piece b 0 2)

pub same_or_none : (a b c : List ℕ) → SameOrNone a b → SameOrNone b c → SameOrNone a c
same_or_none a b c (inl none) next = inl none
same_or_none a b c (inr same) (inl none) = inl (same ∙ none)
same_or_none a b c (inr same) (inr too) = inr (same ∙ too)

module _ (t : Bool) (network : Network) (place : ℕ) (bytes : List ℕ) (behind : 2 ≤ place) (room : place + 4 ≤ length bytes) where
  abbrev chosen : List ℕ
  chosen = if t then with_number network place bytes else bytes

  length_chosen : length chosen ≡ length bytes
  length_chosen = either t (λ l. length l ≡ length bytes) (with_number network place bytes) bytes (length_number network place bytes behind room) refl

  apart_chosen : (i n : ℕ) → 2 ≤ i → IsApart i n place → piece chosen i n ≡ piece bytes i n
  apart_chosen i n far apart =
      either t (λ l. piece l i n ≡ piece bytes i n) (with_number network place bytes) bytes (apart_number network place bytes behind room i n far apart) refl

  checksum_chosen : SameOrNone chosen bytes
  checksum_chosen =
      either t (λ l. SameOrNone l bytes) (with_number network place bytes) bytes (inl (checksum_number network place bytes behind room)) (inr refl)

number_chosen : (t : Bool) (network : Network) (place : ℕ) (bytes : List ℕ) → 2 ≤ place → place + 4 ≤ length bytes → network.0 < 2 ^ 32
    → from_be_bytes w32 (piece (if t then with_number network place bytes else bytes) place 4) ≡ (if t then network.0 else from_be_bytes w32 (piece bytes place 4))
number_chosen true network place bytes behind room fits =
    ap (from_be_bytes w32) (piece_number network place bytes behind room) ∙ from_be_bytes-to_be_bytes_4 network.0 fits
number_chosen false network place bytes behind room fits = refl

-- ---- the source

module _ (port : Port) (bytes : List ℕ) (long : 30 ≤ length bytes) where
  pub length_source : length (with_source port bytes) ≡ length bytes
  length_source = length_chosen (is_unnumbered source_place bytes) port.network source_place bytes (omega arith) (omega (arith, long))

  pub apart_source : (i n : ℕ) → 2 ≤ i → IsApart i n source_place → piece (with_source port bytes) i n ≡ piece bytes i n
  apart_source = apart_chosen (is_unnumbered source_place bytes) port.network source_place bytes (omega arith) (omega (arith, long))

  pub checksum_source : SameOrNone (with_source port bytes) bytes
  checksum_source = checksum_chosen (is_unnumbered source_place bytes) port.network source_place bytes (omega arith) (omega (arith, long))

  pub number_source : port.network.0 < 2 ^ 32
      → from_be_bytes w32 (piece (with_source port bytes) 18 4) ≡ (if is_unnumbered 18 bytes then port.network.0 else from_be_bytes w32 (piece bytes 18 4))
  number_source fits = number_chosen (is_unnumbered source_place bytes) port.network source_place bytes (omega arith) (omega (arith, long)) fits

-- ---- services

module _ (port : Port) (bytes : List ℕ) where
  abbrev pub Room : ℕ → Type 0
  Room count = (k : ℕ) → k < count → hops_place k + 2 ≤ length bytes

  pub length_services : (count : ℕ) → Room count → length (with_services port count bytes) ≡ length bytes
  length_services zero room = refl
  length_services (suc n) room =
      let before = length_services n (λ k below. room k (omega (arith, below))) in
      let old = with_services port n bytes in
      let last = room n (omega arith) in
      length_chosen (is_own_service n old) port.network (service_place n) old (omega arith) (omega (arith, last, before)) ∙ before

  pub apart_services : (count : ℕ) → Room count → (i n : ℕ) → 2 ≤ i → ((k : ℕ) → k < count → IsApart i n (service_place k))
      → piece (with_services port count bytes) i n ≡ piece bytes i n
  apart_services zero room i n far apart = refl
  apart_services (suc m) room i n far apart =
      let less = λ (k : ℕ) (below : k < m). room k (omega (arith, below)) in
      let old = with_services port m bytes in
      let last = room m (omega arith) in
      apart_chosen (is_own_service m old) port.network (service_place m) old (omega arith) (omega (arith, last, length_services m less)) i n far (apart m (omega arith))
      ∙ apart_services m less i n far (λ k below. apart k (omega (arith, below)))

  pub checksum_services : (count : ℕ) → Room count → SameOrNone (with_services port count bytes) bytes
  checksum_services zero room = inr refl
  checksum_services (suc n) room =
      let less = λ (k : ℕ) (below : k < n). room k (omega (arith, below)) in
      let old = with_services port n bytes in
      let last = room n (omega arith) in
      same_or_none (with_services port (suc n) bytes) old bytes
      (checksum_chosen (is_own_service n old) port.network (service_place n) old (omega arith) (omega (arith, last, length_services n less)))
      (checksum_services n less)

  -- what a service's test reads stands as it came
  pub own_later : (count : ℕ) → Room count → (n : ℕ) → count ≤ n → is_own_service n (with_services port count bytes) ≡ is_own_service n bytes
  own_later count room n later =
      ap₂ (λ (a b : List ℕ). (from_be_bytes w32 a == local_network) && nat_lt (from_be_bytes w16 b) 2)
      (apart_services count room (service_place n) 4 (omega arith) (λ k below. inr (omega (arith, below, later))))
      (apart_services count room (hops_place n) 2 (omega arith) (λ k below. inr (omega (arith, below, later))))

  -- the number of a service: the port's, where it is filled in
  pub number_services : port.network.0 < 2 ^ 32 → (count : ℕ) → Room count → (k : ℕ) → k < count
      → from_be_bytes w32 (piece (with_services port count bytes) (service_place k) 4)
      ≡ (if is_own_service k bytes then port.network.0 else from_be_bytes w32 (piece bytes (service_place k) 4))
  number_services fits zero room k below = absurd (omega (arith, below))
  number_services fits (suc n) room k below =
      let less = λ (j : ℕ) (under : j < n). room j (omega (arith, under)) in
      let old = with_services port n bytes in
      let last = room n (omega arith) in
      let wide : service_place n + 4 ≤ length old = omega (arith, last, length_services n less) in
      elim (cases_eq k n) [
        | inl e ↦ subst (λ (j : ℕ). from_be_bytes w32 (piece (with_services port (suc n) bytes) (service_place j) 4)
            ≡ (if is_own_service j bytes then port.network.0 else from_be_bytes w32 (piece bytes (service_place j) 4))) (sym e)
            (number_chosen (is_own_service n old) port.network (service_place n) old (omega arith) wide fits
            ∙ ap₂ (λ (t : Bool) (b : List ℕ). if t then port.network.0 else from_be_bytes w32 b)
            (own_later n less n (omega arith))
            (apart_services n less (service_place n) 4 (omega arith) (λ j under. inr (omega (arith, under)))))
        | inr other ↦
            let under : k < n = omega (arith, below, other) in
            ap (from_be_bytes w32) (apart_chosen (is_own_service n old) port.network (service_place n) old (omega arith) wide (service_place k) 4 (omega arith) (inl (omega (arith, under))))
            ∙ number_services fits n less k under
      ]
