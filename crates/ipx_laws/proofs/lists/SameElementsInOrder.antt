-- Two lists of rising numbers in which each number is found alike are the same.
use Rattle.std.proofs.Common.{◌≡◌, ◌≢◌, refl, sym, ap, ◌∙◌, subst, ℕ, ◌<◌, ◌≤◌, ◌==◌, List, [], ◌∷◌, map, find, Option, None, Some, inl, inr, arith}
use Rattle.std.specs.List.{AllByRecursion}
use Rattle.std.specs.List.Sorted.{IsStrictlyIncreasing}
use Rattle.std.proofs.lemmas.Bool.{cases_eq, cases_lt, eq-eqb, ne_eqb}
use Rattle.ipx_internet.proofs.lists.EachElement.{all_then, Climbs, climbs}
use Rattle.ipx_internet.proofs.lists.FoundInAList.{nothing, it_is}

above : (m n : ℕ) → m ≤ n → (ks : List ℕ) → AllByRecursion (λ k. n < k) ks → AllByRecursion (λ k. m < k) ks
above m n no_more ks all = all_then (λ k. n < k) (λ k. m < k) (λ k less. omega (arith, no_more, less)) ks all

module _ {X : Type 0} (number : X → ℕ) where
  abbrev finds : ℕ → List X → Option X
  finds n xs = find (λ x. number x == n) xs

  none_below : (n : ℕ) (xs : List X) → AllByRecursion (λ k. n < k) (map number xs) → finds n xs ≡ None
  none_below n [] all = refl
  none_below n (x ∷ xs) all = grind (arith, none_below n xs all.1)

  first : (n : ℕ) (x : X) (xs : List X) → number x ≡ n → finds n (x ∷ xs) ≡ Some x
  first n x xs same = let e = eq-eqb (number x) n same in rw e refl

  skipped : (n : ℕ) (x : X) (xs : List X) → number x ≢ n → finds n (x ∷ xs) ≡ finds n xs
  skipped n x xs off = let e = ne_eqb (number x) n off in rw e refl

  -- behind two first elements of one number
  behind : (x y : X) (xs ys : List X) → number x ≡ number y → AllByRecursion (λ k. number x < k) (map number xs)
      → AllByRecursion (λ k. number y < k) (map number ys) → ((n : ℕ) → finds n (x ∷ xs) ≡ finds n (y ∷ ys)) → (n : ℕ) → finds n xs ≡ finds n ys
  behind x y xs ys equal one two alike n = elim (cases_eq (number x) n) [
    | inl here ↦
        none_below n xs (subst (λ (m : ℕ). AllByRecursion (λ k. m < k) (map number xs)) here one)
        ∙ sym (none_below n ys (subst (λ (m : ℕ). AllByRecursion (λ k. m < k) (map number ys)) (sym equal ∙ here) two))
    | inr off ↦ sym (skipped n x xs off) ∙ alike n ∙ skipped n y ys (λ e. off (equal ∙ e))
  ]

  by_climbing : (xs ys : List X) → Climbs (map number xs) → Climbs (map number ys) → ((n : ℕ) → finds n xs ≡ finds n ys) → xs ≡ ys
  by_climbing [] [] one two alike = refl
  by_climbing [] (y ∷ ys) one two alike = nothing (alike (number y) ∙ first (number y) y ys refl)
  by_climbing (x ∷ xs) [] one two alike = nothing (sym (alike (number x)) ∙ first (number x) x xs refl)
  by_climbing (x ∷ xs) (y ∷ ys) one two alike = elim (cases_lt (number x) (number y)) [
    | inl less ↦
        nothing (sym (none_below (number x) (y ∷ ys) (less, above (number x) (number y) (omega (arith, less)) (map number ys) two.0))
        ∙ sym (alike (number x)) ∙ first (number x) x xs refl)
    | inr no_less ↦ elim (cases_lt (number y) (number x)) [
      | inl less ↦
          nothing (sym (none_below (number y) (x ∷ xs) (less, above (number y) (number x) (omega (arith, less)) (map number xs) one.0))
          ∙ alike (number y) ∙ first (number y) y ys refl)
      | inr no_more ↦
          let equal : number x ≡ number y = omega (arith, no_less, no_more) in
          let head : x ≡ y = it_is (λ (z : X). z ≡ y) x y
          (sym (sym (first (number x) x xs refl) ∙ alike (number x) ∙ first (number x) y ys (sym equal))) refl in
          ap (λ (z : X). z ∷ xs) head ∙ ap (λ (zs : List X). y ∷ zs) (by_climbing xs ys one.1 two.1 (behind x y xs ys equal one.0 two.0 alike))
    ]
  ]

  pub same_lists : (xs ys : List X) → IsStrictlyIncreasing (map number xs) → IsStrictlyIncreasing (map number ys) → ((n : ℕ) → finds n xs ≡ finds n ys) → xs ≡ ys
  same_lists xs ys one two alike = by_climbing xs ys (climbs (map number xs) one) (climbs (map number ys) two) alike
