-- How many there are: of elements that pass a test, of lists made of lists, of numbers.
use Rattle.std.proofs.Common.{◌≡◌, refl, ap, ◌∙◌, ℕ, zero, suc, ◌+◌, ◌*◌, ◌<◌, ◌≤◌, ◌⊎◌, ◌==◌, Bool, true, false, List, [], ◌∷◌, ◌++◌, length, map, filter, flat_map, inl, inr, arith, length-append}
use Rattle.std.specs.List.{AllByRecursion, list_any}
use Rattle.std.proofs.lemmas.Bool.{cases_Bool, cases_lt, eq-eqb, or_left, or_right}
use Rattle.ipx_router.specs.Port.{numbers}
use Rattle.ipx_internet.specs.Most.{greatest}

-- ---- what is in a list

-- an element is one of a list
abbrev pub IsIn : {X : Type 0} → X → List X → Type 0
IsIn x [] = ⊥
IsIn x (y ∷ ys) = (y ≡ x) ⊎ IsIn x ys

module _ {X : Type 0} where
  pub in_front : (x : X) (xs ys : List X) → IsIn x xs → IsIn x (xs ++ ys)
  in_front x [] ys there = absurd there
  in_front x (z ∷ xs) ys there = elim there [ inl e ↦ inl e | inr behind ↦ inr (in_front x xs ys behind) ]

  pub behind : (x : X) (xs ys : List X) → IsIn x ys → IsIn x (xs ++ ys)
  behind x [] ys there = there
  behind x (z ∷ xs) ys there = inr (behind x xs ys there)

  pub in_image : {Y : Type 0} (f : X → Y) (x : X) (xs : List X) → IsIn x xs → IsIn (f x) (map f xs)
  in_image f x [] there = absurd there
  in_image f x (z ∷ xs) there = elim there [ inl e ↦ inl (ap f e) | inr later ↦ inr (in_image f x xs later) ]

  -- one that passes one test and not the other makes a difference of one
  pub fewer_by_one : (p q : X → Bool) → ((y : X) → p y ≡ true → q y ≡ true) → (x : X) (xs : List X) → IsIn x xs → p x ≡ false → q x ≡ true
      → length (filter p xs) + 1 ≤ length (filter q xs)
  fewer_by_one p q weaker x [] there off on = absurd there
  fewer_by_one p q weaker x (y ∷ xs) there off on = elim there [
    | inl e ↦
        let off_y : p y ≡ false = ap p e ∙ off in
        let on_y : q y ≡ true = ap q e ∙ on in
        let rest = no_more xs in
        rw (off_y, on_y) (omega (arith, rest))
    | inr later ↦
        let rest = fewer_by_one p q weaker x xs later off on in
        elim (cases_Bool (p y)) [
          | inl e ↦ rw (e, weaker y e) (omega (arith, rest))
          | inr e ↦ elim (cases_Bool (q y)) [
            | inl f ↦ rw (e, f) (omega (arith, rest))
            | inr f ↦ rw (e, f) rest
          ]
        ]
  ]
    where
      no_more : (ys : List X) → length (filter p ys) ≤ length (filter q ys)
      no_more [] = omega arith
      no_more (y ∷ ys) =
          let rest = no_more ys in
          elim (cases_Bool (p y)) [
            | inl e ↦ rw (e, weaker y e) (omega (arith, rest))
            | inr e ↦ elim (cases_Bool (q y)) [
              | inl f ↦ rw (e, f) (omega (arith, rest))
              | inr f ↦ rw (e, f) rest
            ]
          ]

  -- lists that are short make one that isn't long
  pub flat_map_few : {Y : Type 0} (f : X → List Y) (few : ℕ) (xs : List X) → AllByRecursion (λ x. length (f x) ≤ few) xs → length (flat_map f xs) ≤ length xs * few
  flat_map_few f few [] all = omega arith
  flat_map_few f few (x ∷ xs) all = grind (arith, flat_map_few f few xs all.1, length-append)

-- ---- numbers

pub number_in : (k n : ℕ) → k < n → IsIn k (numbers n)
number_in k zero below = absurd (omega (arith, below))
number_in k (suc n) below = elim (cases_lt k n) [
  | inl less ↦ in_front k (numbers n) (n ∷ []) (number_in k n less)
  | inr from ↦ behind k (numbers n) (n ∷ []) (inl (omega (arith, below, from)))
]

-- the number is found
pub is_number : (k n : ℕ) → k < n → list_any (λ y. y == k) (numbers n) ≡ true
is_number k n below = by (numbers n) (number_in k n below)
  where
    by : (xs : List ℕ) → IsIn k xs → list_any (λ y. y == k) xs ≡ true
    by [] there = absurd there
    by (x ∷ xs) there = elim there [
      | inl e ↦ or_left (x == k) (list_any (λ y. y == k) xs) (eq-eqb x k e)
      | inr later ↦ or_right (x == k) (list_any (λ y. y == k) xs) (by xs later)
    ]

pub length-numbers : (n : ℕ) → length (numbers n) ≡ n
length-numbers zero = refl
length-numbers (suc n) = grind (arith, length-numbers n, length-append)

pub at_most_greatest : (n : ℕ) (ns : List ℕ) → IsIn n ns → n ≤ greatest ns
at_most_greatest n [] there = absurd there
at_most_greatest n (m ∷ ns) there = elim there [
  | inl e ↦ omega (arith, e)
  | inr later ↦ let rest = at_most_greatest n ns later in omega (arith, rest)
]
