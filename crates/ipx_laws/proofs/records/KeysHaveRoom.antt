-- Where all records are of listed keys, there are no more of them than keys, and fewer where one has none: so there is room.
use Rattle.std.proofs.Common.{◌≡◌, refl, sym, ap, subst, ℕ, zero, suc, ◌<◌, ◌≤◌, nat_lt, ◌&&◌, not, Bool, true, false, List, [], ◌∷◌, filter, find, length, None, Some, inl, inr, arith, Ordering, Less, Equal, Greater, is_eq, slice_get}
use Rattle.std.specs.List.{AllByRecursion}
use Rattle.std.specs.Cmp.{IsTotalOrder}
use Rattle.std.specs.Ordering.{ordering_reverse, is_lt}
use Rattle.std.proofs.lemmas.Bool.{cases_Bool, not-true, and_from, lt-ltb, or_left, or_right}
use Rattle.ipx_table.specs.Accepted.{has_share, may_replace}
use Rattle.ipx_table.specs.Reading.{Reading, Rules, rules_of, port_of, share_of}
use Rattle.ipx_table.specs.declared.held.Held.{Held}
use Rattle.ipx_table.proofs.Singles.{length-filter, length-filter-filter}
use Rattle.ipx_internet.proofs.lists.EachElement.{all_passed, all_then, length_parted}
use Rattle.ipx_internet.proofs.lists.FoundInAList.{nothing, it_is}

-- a filter that leaves one out keeps fewer
left_out : {X : Type 0} (test keep : X → Bool) (x : X) (xs : List X) → find test xs ≡ Some x → keep x ≡ false → length (filter keep xs) < length xs
left_out test keep x [] is_x out = nothing is_x
left_out test keep x (y ∷ xs) is_x out = elim (cases_Bool (test y)) [
  | inl here ↦
      let goes : keep y ≡ false = it_is (λ z. keep z ≡ false) y x (sym (rw here at is_x)) out in
      let most = length-filter keep xs in
      rw goes (omega (arith, most))
  | inr off ↦
      let rest = left_out test keep x xs (rw off at is_x) out in
      elim (cases_Bool (keep y)) [
        | inl stays ↦ rw stays (omega (arith, rest))
        | inr goes ↦ rw goes (omega (arith, rest))
      ]
]

share_of_all : (n capacity : ℕ) (shares : List ℕ) (port : ℕ) → n ≤ capacity → AllByRecursion (λ s. n ≤ s) shares → n ≤ share_of capacity shares port
share_of_all n capacity [] port most all = most
share_of_all n capacity (s ∷ shares) zero most all = all.0
share_of_all n capacity (s ∷ shares) (suc port) most all = share_of_all n capacity shares port most all.1

-- the key is one of a list
abbrev pub IsListed : {K : Type 0} → List K → K → Type 0
IsListed keys key = (n : ℕ) × (slice_get keys n ≡ Some key)

module _ {O K : Type 0} (reading : Reading O K) (order : K → K → Ordering) (total : IsTotalOrder order) (one_key : (a b : K) → is_eq (order a b) ≡ true → a ≡ b) where
  abbrev of_key : K → Held O → Bool
  of_key k h = is_eq (order (reading.key h.offer) k)

  -- no two are of one key
  abbrev pub AreSingle : List (Held O) → Type 0
  AreSingle held = (k : K) → length (filter (of_key k) held) ≤ 1

  pub itself : (k : K) → is_eq (order k k) ≡ true
  itself k = equal (order k k) (total.antisymm k k)
    where
      equal : (r : Ordering) → r ≡ ordering_reverse r → is_eq r ≡ true
      equal Less e = sym (ap is_lt e)
      equal Equal e = refl
      equal Greater e = ap is_lt e

  behind : (first : K) (keys : List K) (h : Held O) → IsListed (first ∷ keys) (reading.key h.offer) → of_key first h ≡ false → IsListed keys (reading.key h.offer)
  behind first keys h given off = grind arith

  pub few_held : (keys : List K) (held : List (Held O)) → AreSingle held → AllByRecursion (λ h. IsListed keys (reading.key h.offer)) held → length held ≤ length keys
  few_held [] [] single all = omega arith
  few_held [] (h ∷ held) single all = nothing all.0.1
  few_held (first ∷ keys) held single all =
      let others : List (Held O) = filter (λ h. not (of_key first h)) held in
      let parts = length_parted (of_key first) held in
      let one = single first in
      let rest = few_held keys others
      (λ k. let some = single k in let fewer = length-filter-filter (of_key k) (λ h. not (of_key first h)) held in omega (arith, some, fewer))
      (all_then (λ h. IsListed (first ∷ keys) (reading.key h.offer) × (not (of_key first h) ≡ true)) (λ h. IsListed keys (reading.key h.offer))
      (λ h both. behind first keys h both.0 (not-true (of_key first h) both.1)) others
      (all_passed (λ h. IsListed (first ∷ keys) (reading.key h.offer)) (λ h. not (of_key first h)) held all)) in
      omega (arith, parts, one, rest)

  none_of : (k : K) (held : List (Held O)) → find (of_key k) held ≡ None → length (filter (of_key k) held) ≤ 0
  none_of k [] none = omega arith
  none_of k (h ∷ held) none = elim (cases_Bool (of_key k h)) [
    | inl here ↦ nothing (sym (rw here at none))
    | inr off ↦ rw off (none_of k held (rw off at none))
  ]

  pub fewer_held : (keys : List K) (held : List (Held O)) → AreSingle held → AllByRecursion (λ h. IsListed keys (reading.key h.offer)) held
      → (o : O) → IsListed keys (reading.key o) → find (of_key (reading.key o)) held ≡ None → length held < length keys
  fewer_held keys held single all o listed none =
      let new : Held O = record { offer = o; age = 0 } in
      let most = few_held keys (new ∷ held) single_now (listed, all) in
      omega (arith, most)
    where
      single_now : AreSingle (record { offer = o; age = 0 } ∷ held)
      single_now k = elim (cases_Bool (is_eq (order (reading.key o) k))) [
        | inr off ↦ rw off (single k)
        | inl here ↦
            let same = one_key (reading.key o) k here in
            let gone = none_of k held (subst (λ (j : K). find (of_key j) held ≡ None) same none) in
            rw here (omega (arith, gone))
      ]

  -- ---- room and shares

  module _ (capacity : ℕ) (shares : List ℕ) (keys : List K) (room : length keys ≤ capacity) (each : AllByRecursion (λ s. length keys ≤ s) shares)
      (held : List (Held O)) (single : AreSingle held) (all : AllByRecursion (λ h. IsListed keys (reading.key h.offer)) held) (o : O) where
    abbrev rules : Rules O
    rules = rules_of reading order capacity shares

    share : length keys ≤ share_of capacity shares (port_of reading o)
    share = share_of_all (length keys) capacity shares (port_of reading o) room each

    pub admits : IsListed keys (reading.key o) → find (of_key (reading.key o)) held ≡ None → (nat_lt (length held) capacity && has_share rules o held) ≡ true
    admits listed none = grind (arith, fewer_held, length-filter, share, and_from, lt-ltb)

    pub replaces : (h : Held O) → find (of_key (reading.key o)) held ≡ Some h → may_replace rules o held h ≡ true
    replaces h is_h = grind (arith, or_left, few_held, left_out, share, or_right, lt-ltb)
