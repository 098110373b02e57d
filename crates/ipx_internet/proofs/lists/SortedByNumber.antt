-- Lists that stand by a number: where the elements of one number stand, and what an insert behind them changes.
use Rattle.std.proofs.Common.{◌≡◌, refl, sym, ap, ◌∙◌, ℕ, zero, suc, ◌+◌, ◌-◌, ◌<◌, ◌≤◌, ◌==◌, Bool, true, false, if◌then◌else◌, List, [], ◌∷◌, ◌++◌, length, filter, take, drop, get_or, ◌⊎◌, inl, inr, arith, leb, ltb, append-nil, length-append, subst}
use Rattle.std.specs.List.{insert}
use Rattle.std.specs.List.Sorted.{IsPartitionPoint, IsNonDecreasingBy}
use Rattle.std.proofs.lemmas.Bool.{cases_lt, cases_eq, eq-eqb, ne_eqb, ltb-true, ltb-false, leb-true, leb-false}
use Rattle.std.proofs.lemmas.List.{take-append-drop, get_or-take, get_or-drop, length-drop, length-take}
use Rattle.std.proofs.lemmas.List.Elements.{filter-append}
use Rattle.std.proofs.lemmas.List.Sorted.{IsNonDecreasingBy-insert}

module _ {X : Type 0} where
  -- none pass
  pub filter_none : (p : X → Bool) (xs : List X) → ((k : ℕ) (d : X) → k < length xs → p (get_or xs k d) ≡ false) → filter p xs ≡ []
  filter_none p [] each = refl
  filter_none p (x ∷ xs) each =
      let rest = filter_none p xs (λ k d less. each (suc k) d (omega (arith, less))) in
      rw (each 0 x (omega arith)) rest

  -- all pass
  pub filter_all : (p : X → Bool) (xs : List X) → ((k : ℕ) (d : X) → k < length xs → p (get_or xs k d) ≡ true) → filter p xs ≡ xs
  filter_all p [] each = refl
  filter_all p (x ∷ xs) each =
      let rest = filter_all p xs (λ k d less. each (suc k) d (omega (arith, less))) in
      rw (each 0 x (omega arith)) (ap (λ ys. x ∷ ys) rest)

  -- the first of two parts has what passes
  pub filter_parted : (p : X → Bool) (xs : List X) (n : ℕ) → n ≤ length xs
      → ((k : ℕ) (d : X) → k < n → p (get_or xs k d) ≡ true) → ((k : ℕ) (d : X) → n ≤ k → k < length xs → p (get_or xs k d) ≡ false)
      → filter p xs ≡ take n xs
  filter_parted p [] zero within front rest = refl
  filter_parted p [] (suc n) within front rest = refl
  filter_parted p (x ∷ xs) zero within front rest = filter_none p (x ∷ xs) (λ k d less. rest k d (omega arith) less)
  filter_parted p (x ∷ xs) (suc n) within front rest =
      let deeper = filter_parted p xs n (omega (arith, within)) (λ k d less. front (suc k) d (omega (arith, less)))
      (λ k d from less. rest (suc k) d (omega (arith, from)) (omega (arith, less))) in
      rw (front 0 x (omega arith)) (ap (λ ys. x ∷ ys) deeper)

-- where the elements below a number end, and those up to it
abbrev pub IsPoint : {X : Type 0} → (X → Bool) → List X → ℕ → Type 0
IsPoint p xs i = IsPartitionPoint (λ y. p y ≡ true) (λ y. p y ≡ false) xs i

module _ {X : Type 0} (key : X → ℕ) (n : ℕ) (xs : List X) (first end : ℕ) where
  abbrev of_number : X → Bool
  of_number y = key y == n

  module _ (below : IsPoint (λ y. ltb (key y) n) xs first) (up_to : IsPoint (λ y. leb (key y) n) xs end) where
    -- none below the number stands behind those up to it
    pub ordered : first ≤ length xs → first ≤ end
    ordered within = elim (cases_lt end first) [
      | inl less ↦ absurd (never xs below up_to less within)
      | inr from ↦ from
    ]
      where
        never : (ys : List X) → IsPoint (λ y. ltb (key y) n) ys first → IsPoint (λ y. leb (key y) n) ys end → end < first → first ≤ length ys → ⊥
        never [] below up_to less within = omega (arith, less, within)
        never (y ∷ ys) below up_to less within =
            let one = ltb-true _ _ (below.0 end y (omega arith) less) in
            let two = leb-false _ _ (up_to.1 end y (omega arith) (omega (arith, less, within))) in
            omega (arith, one, two)

    -- between them stand those of the number
    pub part_is : first ≤ length xs → end ≤ length xs → take (end - first) (drop first xs) ≡ filter of_number xs
    part_is within long =
        let up = ordered within in
        let front : filter of_number (take first xs) ≡ [] =
        filter_none of_number (take first xs) (λ k d less.
        let short = length-take first xs in
        let there : k < first = omega (arith, less, short) in
        let small = ltb-true _ _ (below.0 k d (omega arith) there) in
        rw (get_or-take first xs k d there) (ne_eqb _ _ (λ e. absurd (omega (arith, small, e))))) in
        let long_enough = length-drop first xs in
        let behind : filter of_number (drop first xs) ≡ take (end - first) (drop first xs) =
        filter_parted of_number (drop first xs) (end - first) (omega (arith, long_enough, long, up))
        (λ k d less.
        let high = ltb-false _ _ (below.1 (first + k) d (omega arith) (omega (arith, less, long))) in
        let low = leb-true _ _ (up_to.0 (first + k) d (omega arith) (omega (arith, less))) in
        rw (get_or-drop first xs k d) (eq-eqb _ _ (omega (arith, high, low))))
        (λ k d from less.
        let high = leb-false _ _ (up_to.1 (first + k) d (omega (arith, from, up)) (omega (arith, less, long_enough))) in
        rw (get_or-drop first xs k d) (ne_eqb _ _ (λ e. absurd (omega (arith, high, e))))) in
        sym behind ∙ ap (λ ys. ys ++ filter of_number (drop first xs)) (sym front) ∙ sym (filter-append of_number (take first xs) (drop first xs))
        ∙ ap (λ ys. filter of_number ys) (take-append-drop first xs)

-- an insert behind those of its number
module _ {X : Type 0} (key : X → ℕ) (xs : List X) (place : ℕ) (y : X) (point : IsPoint (λ x. leb (key x) (key y)) xs place) (within : place ≤ length xs) where
  pub stays_sorted : IsNonDecreasingBy key xs → IsNonDecreasingBy key (insert xs place y)
  stays_sorted up = IsNonDecreasingBy-insert key xs place y up within (λ k d less. leb-true _ _ (point.0 k d (omega arith) less))
      (λ k d from less. let high = leb-false _ _ (point.1 k d from less) in omega (arith, high))

  -- it is the last of its number
  pub put_last : filter (λ x. key x == key y) (insert xs place y) ≡ filter (λ x. key x == key y) xs ++ y ∷ []
  put_last =
      let p : X → Bool = λ x. key x == key y in
      let none : filter p (drop place xs) ≡ [] =
      filter_none p (drop place xs) (λ k d less.
      let size = length-drop place xs in
      let high = leb-false _ _ (point.1 (place + k) d (omega arith) (omega (arith, less, size))) in
      rw (get_or-drop place xs k d) (ne_eqb _ _ (λ e. absurd (omega (arith, high, e))))) in
      let here : filter p (y ∷ drop place xs) ≡ y ∷ [] = rw (eq-eqb (key y) (key y) refl) (ap (λ ys. y ∷ ys) none) in
      let all : filter p xs ≡ filter p (take place xs) =
      sym (ap (λ ys. filter p ys) (take-append-drop place xs)) ∙ filter-append p (take place xs) (drop place xs)
      ∙ ap (λ ys. filter p (take place xs) ++ ys) none ∙ append-nil (filter p (take place xs)) in
      filter-append p (take place xs) (y ∷ drop place xs) ∙ ap (λ ys. filter p (take place xs) ++ ys) here ∙ ap (λ ys. ys ++ y ∷ []) (sym all)

  -- nothing changes for the other numbers
  put_aside : (n : ℕ) → (key y == n) ≡ false → filter (λ x. key x == n) (insert xs place y) ≡ filter (λ x. key x == n) xs
  put_aside n other =
      let p : X → Bool = λ x. key x == n in
      let here : filter p (y ∷ drop place xs) ≡ filter p (drop place xs) = rw other refl in
      filter-append p (take place xs) (y ∷ drop place xs) ∙ ap (λ ys. filter p (take place xs) ++ ys) here
      ∙ sym (filter-append p (take place xs) (drop place xs)) ∙ ap (λ ys. filter p ys) (take-append-drop place xs)

  pub put_is : (n : ℕ) → filter (λ x. key x == n) (insert xs place y)
      ≡ (if key y == n then filter (λ x. key x == n) xs ++ y ∷ [] else filter (λ x. key x == n) xs)
  put_is n = grind (arith, cases_eq, eq-eqb, put_last, ne_eqb, put_aside)

  -- no number has more elements than before, but that of the insert
  pub still_few : (old new : ℕ) → old ≤ new → ((n : ℕ) → length (filter (λ x. key x == n) xs) ≤ old)
      → length (filter (λ x. key x == key y) (insert xs place y)) ≤ new → (n : ℕ) → length (filter (λ x. key x == n) (insert xs place y)) ≤ new
  still_few old new more few last n = grind (arith, cases_eq, put_aside, ne_eqb)

  -- some number still has that many: the same as before, or that of the insert
  pub still_full : (old new fullest : ℕ) → length (filter (λ x. key x == fullest) xs) ≡ old
      → length (filter (λ x. key x == key y) (insert xs place y)) ≤ new
      → (new ≡ old) ⊎ (new ≡ length (filter (λ x. key x == key y) (insert xs place y)))
      → (n : ℕ) × (length (filter (λ x. key x == n) (insert xs place y)) ≡ new)
  still_full old new fullest full last (inr is) = (key y, sym is)
  still_full old new fullest full last (inl is) = elim (cases_eq (key y) fullest) [
    | inl same ↦
        let before : length (filter (λ x. key x == key y) xs) ≡ old = subst (λ n. length (filter (λ x. key x == n) xs) ≡ old) (sym same) full in
        let more = ap (λ ys. length ys) put_last in
        let one = length-append (filter (λ x. key x == key y) xs) (y ∷ []) in
        absurd (omega (arith, before, more, one, last, is))
    | inr other ↦ (fullest, ap (λ ys. length ys) (put_aside fullest (ne_eqb (key y) fullest other)) ∙ full ∙ sym is)
  ]
