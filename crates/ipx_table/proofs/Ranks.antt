-- The record with so many smaller keys is that place of the records in order.
use Rattle.std.proofs.Common.{◌≡◌, refl, sym, ap, ◌∙◌, subst, ℕ, ◌≤◌, ◌==◌, zero, suc, Bool, true, false, cond, List, [], ◌∷◌, filter, map, length, slice_get, Option, None, Some, IfSome, option_to_list, inl, inr, arith, Ordering, is_eq, is_lt}
use Rattle.std.specs.List.{AllByRecursion}
use Rattle.std.specs.Cmp.{IsTotalOrder}
use Rattle.std.proofs.lemmas.Cmp.{tied_itself}
use Rattle.std.proofs.lemmas.Bool.{cases_Bool, eqb-true, ne_eqb}
use Rattle.ipx_table.specs.Reading.{same_key}
use Rattle.ipx_table.specs.Stands.{in_order, is_last, IsDistinct, IsAscending, Ascends}
use Rattle.ipx_table.specs.declared.held.Held.{Held}
use Rattle.ipx_table.proofs.Order as order
use Rattle.ipx_table.proofs.Singles.{length-filter-filter, NonePass, all_then, filter-passes, none-filter, around}

-- a filter doesn't ask how a test that agrees on each is written
filter-alike : {X : Type 0} (p q : X → Bool) (xs : List X) → AllByRecursion (λ x. p x ≡ q x) xs → filter p xs ≡ filter q xs
filter-alike p q [] all = refl
filter-alike p q (x ∷ xs) all = rw (all.0, filter-alike p q xs all.1) refl

module _ {O : Type 0} (by_key : O → O → Ordering) (total : IsTotalOrder by_key) where
  -- how many of the records have a smaller key than that offer
  abbrev pub below : O → List (Held O) → ℕ
  below offer held = length (filter (λ h. is_lt (by_key h.offer offer)) held)

  pub ascending-in_order : (held : List (Held O)) → IsDistinct by_key held → IsAscending by_key (in_order by_key held)
  ascending-in_order held distinct =
      rising (in_order by_key held) (order.rises-in_order by_key total held)
      (λ q. subst (λ (n : ℕ). n ≤ 1) (sym (ap length (order.filter-in_order by_key total (λ h. same_key by_key h.offer q) held)
      ∙ order.length-in_order by_key total (filter (λ h. same_key by_key h.offer q) held))) (distinct q))
    where
      strict : (h : Held O) (xs : List (Held O)) → order.IsLeast by_key total h xs → NonePass (λ x. same_key by_key x.offer h.offer) xs
          → AllByRecursion (λ x. is_lt (by_key h.offer x.offer) ≡ true) xs
      strict h [] least apart = tt
      strict h (x ∷ xs) least apart = (order.one_of_both by_key total x.offer h.offer apart.0 least.0, strict h xs least.1 apart.1)

      rising : (xs : List (Held O)) → order.Rises by_key total xs → IsDistinct by_key xs → IsAscending by_key xs
      rising [] up distinct = tt
      rising (x ∷ xs) up distinct =
          let a = around (λ y. same_key by_key y.offer x.offer) [] x xs (ap is_eq (tied_itself total x.offer)) (distinct x.offer) in
          (strict x xs up.0 a.none_behind, rising xs up.1 (λ q. fewer (λ y. same_key by_key y.offer q) x xs (distinct q)))
        where
          fewer : (p : Held O → Bool) (x : Held O) (xs : List (Held O)) → length (filter p (x ∷ xs)) ≤ 1 → length (filter p xs) ≤ 1
          fewer p x xs few = elim (cases_Bool (p x)) [
            | inl e ↦ let more : suc (length (filter p xs)) ≤ 1 = rw e at few in omega (arith, more)
            | inr e ↦ rw e at few
          ]

  ascends-offers : (held : List (Held O)) → IsAscending by_key held → Ascends by_key (map (λ h. h.offer) held)
  ascends-offers [] up = tt
  ascends-offers (h ∷ rest) up = (each rest up.0, ascends-offers rest up.1)
    where
      each : (xs : List (Held O)) → AllByRecursion (λ x. is_lt (by_key h.offer x.offer) ≡ true) xs → AllByRecursion (λ o. is_lt (by_key h.offer o) ≡ true) (map (λ x. x.offer) xs)
      each [] all = tt
      each (x ∷ xs) all = (all.0, each xs all.1)

  -- what ended stands by key
  pub ended-ascends : (held : List (Held O)) → IsDistinct by_key held → Ascends by_key (map (λ h. h.offer) (in_order by_key (filter is_last held)))
  ended-ascends held distinct = grind (arith, ascends-offers, ascending-in_order, length-filter-filter)

  same_above : (a b : ℕ) → (suc a == suc b) ≡ (a == b)
  same_above a b = grind arith

  -- in records that ascend, the one with k smaller keys is the k-th
  pub rank-ascending : (xs : List (Held O)) (k : ℕ) → IsAscending by_key xs
      → filter (λ h. below h.offer xs == k) xs ≡ option_to_list (slice_get xs k)
  rank-ascending [] k up = refl
  rank-ascending (x ∷ xs) k up =
      let itself : is_lt (by_key x.offer x.offer) ≡ false = ap is_lt (tied_itself total x.offer) in
      let none : filter (λ h. is_lt (by_key h.offer x.offer)) xs ≡ [] =
      none-filter (λ h. is_lt (by_key h.offer x.offer)) xs
      (all_then (λ y. is_lt (by_key x.offer y.offer) ≡ true) (λ y. is_lt (by_key y.offer x.offer) ≡ false) (λ y l. order.not_both by_key total x.offer y.offer l) xs up.0) in
      let first : below x.offer (x ∷ xs) ≡ 0 = rw (itself, none) refl in
      rw first (at_place x xs k up.0 (λ j. rank-ascending xs j up.1))
    where
      at_place : (x : Held O) (xs : List (Held O)) (k : ℕ) → AllByRecursion (λ y. is_lt (by_key x.offer y.offer) ≡ true) xs
          → ((j : ℕ) → filter (λ h. below h.offer xs == j) xs ≡ option_to_list (slice_get xs j))
          → cond (0 == k) (x ∷ filter (λ h. below h.offer (x ∷ xs) == k) xs) (filter (λ h. below h.offer (x ∷ xs) == k) xs) ≡ option_to_list (slice_get (x ∷ xs) k)
      at_place x xs zero above ih =
          ap (λ rest. x ∷ rest) (none-filter (λ h. below h.offer (x ∷ xs) == 0) xs
          (all_then (λ y. is_lt (by_key x.offer y.offer) ≡ true) (λ y. (below y.offer (x ∷ xs) == 0) ≡ false) (λ y l. rw l (ne_eqb (suc (below y.offer xs)) 0 (λ e. omega (arith, e)))) xs above))
      at_place x xs (suc k) above ih =
          let other : (0 == suc k) ≡ false = ne_eqb 0 (suc k) (λ e. omega (arith, e)) in
          rw other (filter-alike (λ h. below h.offer (x ∷ xs) == suc k) (λ h. below h.offer xs == k) xs
          (all_then (λ y. is_lt (by_key x.offer y.offer) ≡ true) (λ y. (below y.offer (x ∷ xs) == suc k) ≡ (below y.offer xs == k))
          (λ y l. rw l (same_above (below y.offer xs) k)) xs above)
          ∙ ih k)

  single-in_order : (xs : List (Held O)) → length xs ≤ 1 → in_order by_key xs ≡ xs
  single-in_order [] few = refl
  single-in_order (x ∷ []) few = refl
  single-in_order (x ∷ y ∷ xs) few = absurd (omega (arith, few))

  short-option : (o : Option (Held O)) → length (option_to_list o) ≤ 1
  short-option o = grind arith

  pub below-in_order : (offer : O) (held : List (Held O)) → below offer (in_order by_key held) ≡ below offer held
  below-in_order offer held =
      ap length (order.filter-in_order by_key total (λ h. is_lt (by_key h.offer offer)) held)
      ∙ order.length-in_order by_key total (filter (λ h. is_lt (by_key h.offer offer)) held)

  pub ranked : (held : List (Held O)) (k : ℕ) → IsDistinct by_key held → filter (λ h. below h.offer held == k) held ≡ option_to_list (slice_get (in_order by_key held) k)
  ranked held k distinct =
      let sorted = in_order by_key held in
      let p = λ (h : Held O). below h.offer sorted == k in
      let alike : filter (λ h. below h.offer held == k) held ≡ filter p held =
      filter-alike (λ h. below h.offer held == k) p held (everywhere held (λ h. ap (λ n. n == k) (sym (below-in_order h.offer held)))) in
      let one = rank-ascending sorted k (ascending-in_order held distinct) in
      let short : length (filter p held) ≤ 1 =
      subst (λ (n : ℕ). n ≤ 1) (ap length (sym one) ∙ ap length (order.filter-in_order by_key total p held) ∙ order.length-in_order by_key total (filter p held)) (short-option (slice_get sorted k)) in
      alike ∙ sym (single-in_order (filter p held) short) ∙ sym (order.filter-in_order by_key total p held) ∙ one
    where
      everywhere : {P : Held O → Type 0} (xs : List (Held O)) → ((h : Held O) → P h) → AllByRecursion P xs
      everywhere [] each = tt
      everywhere (x ∷ xs) each = (each x, everywhere xs each)

  -- the record at a place has as many smaller keys
  pub smaller-ascending : (held : List (Held O)) (k : ℕ) → IsAscending by_key held → IfSome (slice_get held k) (λ h. below h.offer held ≡ k)
  smaller-ascending held k up =
      option-all (λ h. below h.offer held ≡ k) (slice_get held k)
      (subst (λ hs. AllByRecursion (λ h. below h.offer held ≡ k) hs) (rank-ascending held k up)
      (filter-passes (λ h. below h.offer held ≡ k) (λ h. below h.offer held == k) (λ h e. eqb-true (below h.offer held) k e) held))
    where
      option-all : (P : Held O → Type 0) (o : Option (Held O)) → AllByRecursion P (option_to_list o) → IfSome o P
      option-all P None all = tt
      option-all P (Some x) all = all.0
