-- Lists in which at most one element passes a test.
use Rattle.std.proofs.lemmas.Grind.{common_steps}
use Rattle.std.proofs.Common.{◌≡◌, refl, sym, ap, ◌∙◌, ℕ, ◌+◌, ◌≤◌, zero, suc, Bool, true, false, ◌||◌, List, [], ◌∷◌, ◌++◌, filter, find, length, set, take, drop, slice_get, get_or, is_some, position, Option, None, Some, inl, inr, arith, true≢false, length-append}
use Rattle.std.specs.List.{AllByRecursion, list_any, position_or_len}
use Rattle.std.proofs.lemmas.List.Folds.{find_at}
use Rattle.std.proofs.lemmas.List.Quantifiers.{position-Some}
use Rattle.std.proofs.lemmas.Option.{slice_get-get_or}
use Rattle.std.proofs.lemmas.Bool.{cases_Bool, ltb-false}
use Rattle.std.proofs.lemmas.List.Elements.{filter-append}

module _ {X : Type 0} where
  abbrev pub NonePass : (X → Bool) → List X → Type 0
  NonePass p xs = AllByRecursion (λ x. p x ≡ false) xs

  pub all_then : (P Q : X → Type 0) → ((x : X) → P x → Q x) → (xs : List X) → AllByRecursion P xs → AllByRecursion Q xs
  all_then P Q step [] all = tt
  all_then P Q step (x ∷ xs) all = (step x all.0, all_then P Q step xs all.1)

  pub all-append : (P : X → Type 0) (xs ys : List X) → AllByRecursion P xs → AllByRecursion P ys → AllByRecursion P (xs ++ ys)
  all-append P xs ys one two = grind (arith, common_steps)

  pub all-parts : (P : X → Type 0) (xs ys : List X) → AllByRecursion P (xs ++ ys) → AllByRecursion P xs × AllByRecursion P ys
  all-parts P [] ys all = (tt, all)
  all-parts P (x ∷ xs) ys all = grind (arith, all-parts P xs ys all.1)

  pub all-filter : (P : X → Type 0) (p : X → Bool) (xs : List X) → AllByRecursion P xs → AllByRecursion P (filter p xs)
  all-filter P p [] all = tt
  all-filter P p (x ∷ xs) all = grind (arith, all-filter P p xs all.1)

  -- what a filter keeps passes
  pub filter-passes : (P : X → Type 0) (p : X → Bool) → ((x : X) → p x ≡ true → P x) → (xs : List X) → AllByRecursion P (filter p xs)
  filter-passes P p means [] = tt
  filter-passes P p means (x ∷ xs) = grind (arith, filter-passes P p means xs)

  pub none_pass : (p : X → Bool) (xs : List X) → list_any p xs ≡ false → NonePass p xs
  none_pass p [] e = tt
  none_pass p (x ∷ xs) e =
      elim (cases_Bool (p x)) [
        | inl passes ↦ absurd (true≢false (sym (rw passes refl) ∙ e))
        | inr fails ↦ (fails, none_pass p xs (rw fails at e))
      ]

  pub none-any : (p : X → Bool) (xs : List X) → NonePass p xs → list_any p xs ≡ false
  none-any p [] none = refl
  none-any p (x ∷ xs) none = rw none.0 (none-any p xs none.1)

  pub none-filter : (p : X → Bool) (xs : List X) → NonePass p xs → filter p xs ≡ []
  none-filter p [] none = refl
  none-filter p (x ∷ xs) none = rw none.0 (none-filter p xs none.1)

  -- a filter that all pass
  pub all-kept : (p : X → Bool) (xs : List X) → AllByRecursion (λ x. p x ≡ true) xs → filter p xs ≡ xs
  all-kept p [] all = refl
  all-kept p (x ∷ xs) all = rw all.0 (ap (λ rest. x ∷ rest) (all-kept p xs all.1))

  pub none-find : (p : X → Bool) (xs : List X) → NonePass p xs → find p xs ≡ None
  none-find p [] none = refl
  none-find p (x ∷ xs) none = rw none.0 (none-find p xs none.1)

  few_none : (p : X → Bool) (xs : List X) → length (filter p xs) ≤ 0 → NonePass p xs
  few_none p [] few = tt
  few_none p (x ∷ xs) few =
      elim (cases_Bool (p x)) [
        | inl passes ↦ let more : suc (length (filter p xs)) ≤ 0 = rw passes at few in absurd (omega (arith, more))
        | inr fails ↦ (fails, few_none p xs (rw fails at few))
      ]

  pub length-filter : (p : X → Bool) (xs : List X) → length (filter p xs) ≤ length xs
  length-filter p [] = omega arith
  length-filter p (x ∷ xs) = grind (arith, length-filter p xs)

  pub length-filter-filter : (p q : X → Bool) (xs : List X) → length (filter p (filter q xs)) ≤ length (filter p xs)
  length-filter-filter p q [] = omega arith
  length-filter-filter p q (x ∷ xs) =
      let ih = length-filter-filter p q xs in
      elim (cases_Bool (q x)) [
        | inl kept ↦ elim (cases_Bool (p x)) [
          | inl passes ↦ simp (kept, passes) (omega (arith, ih))
          | inr fails ↦ simp (kept, fails) ih
        ]
        | inr left ↦ elim (cases_Bool (p x)) [
          | inl passes ↦ simp (left, passes) (omega (arith, ih))
          | inr fails ↦ simp (left, fails) ih
        ]
      ]

  -- ---- one that passes, and those around it

  pub record Around (p : X → Bool) (before : List X) (it : X) (behind : List X) : Type 0 where
    pub passes : p it ≡ true
    pub none_before : NonePass p before
    pub none_behind : NonePass p behind

  pub around : (p : X → Bool) (before : List X) (it : X) (behind : List X) → p it ≡ true → length (filter p (before ++ it ∷ behind)) ≤ 1 → Around p before it behind
  around p before it behind passes few = grind (arith, filter-append, length-append, few_none)

  pub any-around : (p q : X → Bool) (before : List X) (it : X) (behind : List X) → ((x : X) → p x ≡ false → q x ≡ false) → Around p before it behind
      → list_any q (before ++ it ∷ behind) ≡ q it
  any-around p q [] it behind only a =
      rw (none-any q behind (all_then (λ x. p x ≡ false) (λ x. q x ≡ false) only behind a.none_behind)) (or_false (q it))
    where
      or_false : (b : Bool) → (b || false) ≡ b
      or_false true = refl
      or_false false = refl
  any-around p q (x ∷ before) it behind only a =
      rw (only x a.none_before.0) (any-around p q before it behind only (record { passes = a.passes; none_before = a.none_before.1; none_behind = a.none_behind }))

  pub find-around : (p : X → Bool) (before : List X) (it : X) (behind : List X) → Around p before it behind → find p (before ++ it ∷ behind) ≡ Some it
  find-around p [] it behind a = rw a.passes refl
  find-around p (x ∷ before) it behind a =
      rw a.none_before.0 (find-around p before it behind (record { passes = a.passes; none_before = a.none_before.1; none_behind = a.none_behind }))

  -- ---- places

  pub cut_at : (xs : List X) (place : ℕ) (it : X) → slice_get xs place ≡ Some it → xs ≡ take place xs ++ it ∷ drop (suc place) xs
  cut_at [] place it e = absurd (true≢false (sym (ap is_some e)))
  cut_at (x ∷ xs) zero it e = ap (λ y. y ∷ xs) (inside e)
    where
      inside : {y : X} → Some x ≡ Some y → x ≡ y
      inside e = ap (λ (o : Option X). elim o [ None ↦ x | Some z ↦ z ]) e
  cut_at (x ∷ xs) (suc place) it e = ap (λ rest. x ∷ rest) (cut_at xs place it e)

  pub set-cut : (xs : List X) (place : ℕ) (it y : X) → slice_get xs place ≡ Some it → set xs place y ≡ take place xs ++ y ∷ drop (suc place) xs
  set-cut [] place it y e = absurd (true≢false (sym (ap is_some e)))
  set-cut (x ∷ xs) zero it y e = refl
  set-cut (x ∷ xs) (suc place) it y e = ap (λ rest. x ∷ rest) (set-cut xs place it y e)

-- where the first that passes stands, and that none passes where there is no such place
pub placed-get : {X : Type 0} (p : X → Bool) (xs : List X) (place : ℕ) → position p xs ≡ Some place → slice_get xs place ≡ find p xs
placed-get p xs place e = grind (arith, slice_get, find_at, is_some)

none_within : {X : Type 0} (p : X → Bool) (xs : List X) → length xs ≤ position_or_len p xs → list_any p xs ≡ false
none_within p [] all = refl
none_within p (x ∷ xs) all =
    elim (cases_Bool (p x)) [
      | inl passes ↦ let no : suc (length xs) ≤ 0 = rw passes at all in absurd (omega (arith, no))
      | inr fails ↦ let rest : suc (length xs) ≤ 1 + position_or_len p xs = rw fails at all in rw fails (none_within p xs (omega (arith, rest)))
    ]

pub unplaced-any : {X : Type 0} (p : X → Bool) (xs : List X) → position p xs ≡ None → list_any p xs ≡ false
unplaced-any p xs e = grind (arith, is_some, none_within, ltb-false)

-- what stands at the first place that passes
pub found_at : {X : Type 0} (p : X → Bool) (xs : List X) (place : ℕ) (x : X) → position p xs ≡ Some place → x ≡ get_or xs place x
    → (slice_get xs place ≡ Some x) × (p x ≡ true) × (find p xs ≡ Some x)
found_at p xs place x e read = grind (arith, position-Some, slice_get, slice_get-get_or, placed-get)
