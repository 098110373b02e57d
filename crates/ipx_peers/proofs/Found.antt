-- The numbers that were heard of the first place with a session.
use Rattle.std.proofs.Common.{◌≡◌, ◌∙◌, refl, ap, arith, ℕ, zero, suc, ◌<◌, true, false, cond, ◌||◌, inl, inr, List, [], ◌∷◌, ◌++◌, length, map, set, get_or, None, Some}
use Rattle.std.specs.List.{list_any, position}
use Rattle.std.proofs.lemmas.List.Quantifiers.{position-Some}
use Rattle.std.proofs.lemmas.Bool.{cases_Bool}
use Rattle.ipx_peers.specs.Places.{Place, nobody, is_of}
use Rattle.ipx_peers.specs.States.{place_at}
use Rattle.ipx_peers.proofs.Positions.{none_passes}

module _ (session : List ℕ) where
  abbrev pub found : List Place → List ℕ
  found [] = []
  found (x ∷ xs) = cond (is_of session x) x.numbers (found xs)

  -- ---- where it is

  found_at : (xs : List Place) (i : ℕ) → i < length xs → is_of session (get_or xs i nobody) ≡ true
      → ((k : ℕ) → k < i → is_of session (get_or xs k nobody) ≡ false) → (get_or xs i nobody).numbers ≡ found xs
  found_at [] i within here before = absurd (omega (arith, within))
  found_at (x ∷ xs) zero within here before = rw here refl
  found_at (x ∷ xs) (suc i) within here before =
      rw (before 0 (omega arith)) (found_at xs i (omega (arith, within)) here (λ k less. before (suc k) (omega (arith, less))))

  pub found_known : (xs : List Place) (i : ℕ) → position (is_of session) xs ≡ Some i → (place_at i xs).numbers ≡ found xs
  found_known xs i is =
      let (within, here, before) = position-Some (is_of session) xs i nobody is in
      found_at xs i within here before

  found_nowhere : (xs : List Place) → ((k : ℕ) → k < length xs → is_of session (get_or xs k nobody) ≡ false) → found xs ≡ []
  found_nowhere [] none = refl
  found_nowhere (x ∷ xs) none = rw (none 0 (omega arith)) (found_nowhere xs (λ k less. none (suc k) (omega (arith, less))))

  pub found_unknown : (xs : List Place) → position (is_of session) xs ≡ None → found xs ≡ []
  found_unknown xs none = found_nowhere xs (λ k less. none_passes (is_of session) xs none k nobody less)

  any_nowhere : (xs : List Place) → ((k : ℕ) → k < length xs → is_of session (get_or xs k nobody) ≡ false) → list_any (is_of session) xs ≡ false
  any_nowhere [] none = refl
  any_nowhere (x ∷ xs) none = rw (none 0 (omega arith)) (any_nowhere xs (λ k less. none (suc k) (omega (arith, less))))

  pub any_unknown : (xs : List Place) → position (is_of session) xs ≡ None → list_any (is_of session) xs ≡ false
  any_unknown xs none = any_nowhere xs (λ k less. none_passes (is_of session) xs none k nobody less)

  -- ---- when all places change, but for sessions and numbers

  pub found_mapped : (g : Place → Place) → ((x : Place) → is_of session (g x) ≡ is_of session x) → ((x : Place) → (g x).numbers ≡ x.numbers) → (xs : List Place)
      → found (map g xs) ≡ found xs
  found_mapped g of same [] = refl
  found_mapped g of same (x ∷ xs) =
      ap (λ b. cond b (g x).numbers (found (map g xs))) (of x)
      ∙ ap (λ n. cond (is_of session x) n (found (map g xs))) (same x)
      ∙ ap (λ n. cond (is_of session x) x.numbers n) (found_mapped g of same xs)

  pub any_mapped : (g : Place → Place) → ((x : Place) → is_of session (g x) ≡ is_of session x) → (xs : List Place)
      → list_any (is_of session) (map g xs) ≡ list_any (is_of session) xs
  any_mapped g of [] = refl
  any_mapped g of (x ∷ xs) = ap (λ b. b || list_any (is_of session) (map g xs)) (of x) ∙ ap (λ b. is_of session x || b) (any_mapped g of xs)

  -- ---- when a place is added

  pub found_behind : (xs : List Place) (y : Place) → list_any (is_of session) xs ≡ false → is_of session y ≡ true → found (xs ++ y ∷ []) ≡ y.numbers
  found_behind [] y none is = rw is refl
  found_behind (x ∷ xs) y none is = elim (cases_Bool (is_of session x)) [
    | inl e ↦
        let here : (is_of session x || list_any (is_of session) xs) ≡ false = none in
        let both : true ≡ false = rw e at here in
        absurd cc
    | inr e ↦
        let here : (is_of session x || list_any (is_of session) xs) ≡ false = none in
        rw e (found_behind xs y (rw e at here) is)
  ]

  pub found_before : (xs : List Place) (y : Place) → is_of session y ≡ false → found (xs ++ y ∷ []) ≡ found xs
  found_before [] y other = rw other refl
  found_before (x ∷ xs) y other = ap (λ n. cond (is_of session x) x.numbers n) (found_before xs y other)

  -- ---- when a place changes

  set_at : (xs : List Place) (i : ℕ) (y : Place) → i < length xs → ((k : ℕ) → k < i → is_of session (get_or xs k nobody) ≡ false) → is_of session y ≡ true
      → found (set xs i y) ≡ y.numbers
  set_at [] i y within before is = absurd (omega (arith, within))
  set_at (x ∷ xs) zero y within before is = rw is refl
  set_at (x ∷ xs) (suc i) y within before is =
      rw (before 0 (omega arith)) (set_at xs i y (omega (arith, within)) (λ k less. before (suc k) (omega (arith, less))) is)

  pub found_set : (xs : List Place) (i : ℕ) (y : Place) → position (is_of session) xs ≡ Some i → is_of session y ≡ true → found (set xs i y) ≡ y.numbers
  found_set xs i y at is =
      let (within, here, before) = position-Some (is_of session) xs i nobody at in
      set_at xs i y within before is

  pub found_set_other : (xs : List Place) (i : ℕ) (y : Place) → i < length xs → is_of session (get_or xs i nobody) ≡ false → is_of session y ≡ false
      → found (set xs i y) ≡ found xs
  found_set_other [] i y within old new = absurd (omega (arith, within))
  found_set_other (x ∷ xs) zero y within old new = rw (old, new) refl
  found_set_other (x ∷ xs) (suc i) y within old new = ap (λ n. cond (is_of session x) x.numbers n) (found_set_other xs i y (omega (arith, within)) old new)
