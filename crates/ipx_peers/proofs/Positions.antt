-- The first of a list that passes.
use Rattle.std.proofs.Common.{◌≡◌, ◌∙◌, refl, sym, arith, ℕ, ◌<◌, Bool, true, false, nat_lt, inl, inr, List, length, get_or, None, Some}
use Rattle.std.specs.List.{position, position_or_len}
use Rattle.std.proofs.lemmas.Bool.{cases_Bool, ltb-false, lt-ltb, le-ltb}
use Rattle.std.proofs.lemmas.List.Sums.{position_or_len_is, fails_before_first}

-- where none passes
pub none_passes : {X : Type 0} (p : X → Bool) (xs : List X) → position p xs ≡ None → (k : ℕ) (d : X) → k < length xs → p (get_or xs k d) ≡ false
none_passes p xs none k d within = elim (cases_Bool (nat_lt (position_or_len p xs) (length xs))) [
  | inl e ↦
      let some : Some (position_or_len p xs) ≡ None = sym (rw e refl) ∙ none in
      absurd cc
  | inr e ↦ fails_before_first p xs k d (omega (arith, within, ltb-false (position_or_len p xs) (length xs) e))
]

-- the position that is known by its items
pub position_is : {X : Type 0} (p : X → Bool) (xs : List X) (i : ℕ) (d : X) → i < length xs → ((k : ℕ) → k < i → p (get_or xs k d) ≡ false) → p (get_or xs i d) ≡ true
    → position p xs ≡ Some i
position_is p xs i d within before here =
    let at : position_or_len p xs ≡ i = position_or_len_is p xs i d (omega (arith, within)) before (λ _. here) in
    rw at (rw (lt-ltb i (length xs) within) refl)

pub no_position : {X : Type 0} (p : X → Bool) (xs : List X) (d : X) → ((k : ℕ) → k < length xs → p (get_or xs k d) ≡ false) → position p xs ≡ None
no_position p xs d none =
    let at : position_or_len p xs ≡ length xs = position_or_len_is p xs (length xs) d (omega arith) none (λ less. absurd (omega (arith, less))) in
    rw at (rw (le-ltb (length xs) (length xs) (omega arith)) refl)
