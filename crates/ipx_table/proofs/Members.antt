-- Putting records in order keeps each of them, and adds none.
use Rattle.std.proofs.Common.{◌≡◌, ℕ, zero, suc, List, [], ◌∷◌, slice_get, Some, inl, inr, Ordering, is_lt}
use Rattle.std.proofs.lemmas.Bool.{cases_Bool}
use Rattle.ipx_table.specs.Stands.{put, in_order}
use Rattle.ipx_table.specs.declared.held.Held.{Held}

module _ {O : Type 0} (by_key : O → O → Ordering) where
  abbrev pub IsIn : Held O → List (Held O) → Type 0
  IsIn held xs = (k : ℕ) × (slice_get xs k ≡ Some held)

  behind : (held x : Held O) (xs : List (Held O)) → IsIn held xs → IsIn held (x ∷ xs)
  behind held x xs there = (suc there.0, there.1)

  -- what is in a list with one more in front is that one, or behind it
  split_in : (held x : Held O) (xs ys : List (Held O)) → (Some x ≡ Some held → IsIn held ys) → (IsIn held xs → IsIn held ys) → IsIn held (x ∷ xs) → IsIn held ys
  split_in held x xs ys first rest there = by_place there.0 there.1
    where
      by_place : (k : ℕ) → slice_get (x ∷ xs) k ≡ Some held → IsIn held ys
      by_place zero e = first e
      by_place (suc k) e = rest (k, e)

  put_in : (held h : Held O) (xs : List (Held O)) → IsIn held (h ∷ xs) → IsIn held (put by_key h xs)
  put_in held h [] there = there
  put_in held h (x ∷ xs) there =
      let rest = put_in held h xs in
      elim (cases_Bool (is_lt (by_key x.offer h.offer))) [
        | inr e ↦ rw e there
        | inl e ↦ rw e (split_in held h (x ∷ xs) (x ∷ put by_key h xs)
            (λ f. behind held x (put by_key h xs) (rest (zero, f)))
            (λ t. split_in held x xs (x ∷ put by_key h xs) (λ f. (zero, f)) (λ u. behind held x (put by_key h xs) (rest (behind held h xs u))) t)
            there)
      ]

  in_put : (held h : Held O) (xs : List (Held O)) → IsIn held (put by_key h xs) → IsIn held (h ∷ xs)
  in_put held h [] there = there
  in_put held h (x ∷ xs) there =
      let rest = in_put held h xs in
      elim (cases_Bool (is_lt (by_key x.offer h.offer))) [
        | inr e ↦ rw e at there
        | inl e ↦
            let t : IsIn held (x ∷ put by_key h xs) = rw e at there in
            split_in held x (put by_key h xs) (h ∷ x ∷ xs)
            (λ f. behind held h (x ∷ xs) (zero, f))
            (λ u. split_in held h xs (h ∷ x ∷ xs) (λ f. (zero, f)) (λ v. behind held h (x ∷ xs) (behind held x xs v)) (rest u)) t
      ]

  pub ordered_in : (held : Held O) (xs : List (Held O)) → IsIn held xs → IsIn held (in_order by_key xs)
  ordered_in held [] there = there
  ordered_in held (x ∷ xs) there =
      let rest = ordered_in held xs in
      put_in held x (in_order by_key xs) (split_in held x xs (x ∷ in_order by_key xs) (λ f. (zero, f)) (λ u. behind held x (in_order by_key xs) (rest u)) there)

  pub in_ordered : (held : Held O) (xs : List (Held O)) → IsIn held (in_order by_key xs) → IsIn held xs
  in_ordered held [] there = there
  in_ordered held (x ∷ xs) there =
      let rest = in_ordered held xs in
      split_in held x (in_order by_key xs) (x ∷ xs) (λ f. (zero, f)) (λ u. behind held x xs (rest u)) (in_put held x (in_order by_key xs) there)
