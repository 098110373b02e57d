-- The first number, or the first element, that passes a test.
use Rattle.std.proofs.Common.{◌≡◌, ◌∙◌, refl, sym, ap, arith, ℕ, zero, suc, ◌<◌, ◌≤◌, Bool, true, false, cond, if◌then◌else◌, inl, inr, List, length, get_or, Option, Some, None, position}
use Rattle.std.specs.List.{position_or_len}
use Rattle.std.proofs.lemmas.Bool.{cases_Bool, cases_eq, cases_lt, false≢true, lt-ltb}
use Rattle.std.proofs.lemmas.List.Sums.{fails_before_first}
use Rattle.std.proofs.lemmas.Option.{same_Some, none-some}
use Rattle.ipx_plan.specs.inside.Pairs.{or_last, first_below}

-- ---- numbers

pub record IsFirst (p : ℕ → Bool) (n j : ℕ) : Type 0 where
  pub within : j < n
  pub passes : p j ≡ true
  pub before : (i : ℕ) → i < j → p i ≡ false

module _ (p : ℕ → Bool) where
  last_none : (n : ℕ) (o : Option ℕ) → or_last p o n ≡ None → (o ≡ None) × (p n ≡ false)
  last_none n (Some i) e = absurd cc
  last_none n None e = elim (cases_Bool (p n)) [
    | inl passed ↦ absurd (none-some n (sym e ∙ ap (λ (b : Bool). if b then Some n else None) passed))
    | inr failed ↦ (refl, failed)
  ]

  pub first_none : (n : ℕ) → first_below p n ≡ None → (i : ℕ) → i < n → p i ≡ false
  first_none zero e i less = absurd (omega (arith, less))
  first_none (suc n) e i less =
      let last = last_none n (first_below p n) e in
      elim (cases_eq i n) [
        | inl same ↦ ap p same ∙ last.1
        | inr other ↦ first_none n last.0 i (omega (arith, less, other))
      ]

  last_some : (n j : ℕ) (o : Option ℕ) → first_below p n ≡ o → ((i : ℕ) → o ≡ Some i → IsFirst p n i) → or_last p o n ≡ Some j → IsFirst p (suc n) j
  last_some n j (Some i) is earlier e =
      let same : i ≡ j = same_Some i j e in
      let first = earlier j e in
      record { within = omega (arith, first.within); passes = first.passes; before = first.before }
  last_some n j None is earlier e = elim (cases_Bool (p n)) [
    | inl passed ↦
        let same : n ≡ j = same_Some n j (sym (ap (λ (b : Bool). if b then Some n else None) passed) ∙ e) in
        record {
          within = omega (arith, same);
          passes = sym (ap p same) ∙ passed;
          before = λ i less. first_none n is i (omega (arith, less, same));
        }
    | inr failed ↦ absurd (none-some j (sym (ap (λ (b : Bool). if b then Some n else None) failed) ∙ e))
  ]

  pub first_some : (n j : ℕ) → first_below p n ≡ Some j → IsFirst p n j
  first_some zero j e = absurd cc
  first_some (suc n) j e = last_some n j (first_below p n) refl (λ i is. first_some n i is) e

  -- a loop that has come to one which passes, or to the end
  pub found_at : (j n : ℕ) → first_below p j ≡ None → p j ≡ true → j < n → first_below p n ≡ Some j
  found_at j zero none passed within = absurd (omega (arith, within))
  found_at j (suc n) none passed within = elim (cases_eq j n) [
    | inl same ↦
        let before : first_below p n ≡ None = ap (first_below p) (sym same) ∙ none in
        let passes : p n ≡ true = ap p (sym same) ∙ passed in
        ap (λ (o : Option ℕ). or_last p o n) before ∙ ap (λ (b : Bool). if b then Some n else None) passes ∙ ap Some (sym same)
    | inr other ↦ ap (λ (o : Option ℕ). or_last p o n) (found_at j n none passed (omega (arith, within, other)))
  ]

  pub none_more : (n : ℕ) → first_below p n ≡ None → p n ≡ false → first_below p (suc n) ≡ None
  none_more n none failed = ap (λ (o : Option ℕ). or_last p o n) none ∙ ap (λ (b : Bool). if b then Some n else None) failed

-- ---- elements

module _ {X : Type 0} (p : X → Bool) (xs : List X) where
  pub position_there : (k : ℕ) (d : X) → k < length xs → p (get_or xs k d) ≡ true → (i : ℕ) × (position p xs ≡ Some i) × (i ≤ k)
  position_there k d within passes = elim (cases_lt k (position_or_len p xs)) [
    | inl before ↦ absurd (false≢true (sym (fails_before_first p xs k d before) ∙ passes))
    | inr behind ↦
        let i = position_or_len p xs in
        let less : i < length xs = omega (arith, behind, within) in
        (i, ap (λ (b : Bool). cond b (Some i) None) (lt-ltb i (length xs) less), behind)
  ]

  pub position_none : (k : ℕ) (d : X) → position p xs ≡ None → k < length xs → p (get_or xs k d) ≡ false
  position_none k d none within = elim (cases_Bool (p (get_or xs k d))) [
    | inl passed ↦
        let there = position_there k d within passed in
        absurd (none-some there.0 (sym none ∙ there.1))
    | inr failed ↦ failed
  ]
