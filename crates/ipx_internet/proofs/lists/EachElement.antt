-- What holds of lists: of each of their elements, of those that pass a test, of elements that differ.
use Rattle.std.proofs.lemmas.Grind.{common_steps}
use Rattle.std.proofs.Common.{◌≡◌, ◌≢◌, refl, sym, ap, ◌∙◌, subst, ℕ, zero, suc, ◌+◌, ◌<◌, ◌≤◌, ◌==◌, Bool, true, false, not, List, [], ◌∷◌, ◌++◌, length, map, filter, flat_map, get_or, slice_get, Some, AllPairs, inl, inr, arith}
use Rattle.std.specs.List.{AllByRecursion, list_any}
use Rattle.std.specs.List.Sorted.{IsStrictlyIncreasing}
use Rattle.std.proofs.lemmas.Bool.{cases_Bool, both_ways, or_cases, or_parts, or_from, or_left, or_right, eqb-true, ne_eqb}
use Rattle.std.proofs.lemmas.List.Elements.{recursion_from_All}
use Rattle.std.proofs.lemmas.List.Kept.{AllPairs-from_increasing}
use Rattle.ipx_router.specs.Port.{numbers}
use Rattle.ipx_internet.specs.Different.{AreDifferent}

module _ {X : Type 0} where
  -- ---- what holds of each

  pub all_then : (P Q : X → Type 0) → ((x : X) → P x → Q x) → (xs : List X) → AllByRecursion P xs → AllByRecursion Q xs
  all_then P Q step [] all = tt
  all_then P Q step (x ∷ xs) all = (step x all.0, all_then P Q step xs all.1)

  -- what holds of everything
  pub all_of : (P : X → Type 0) → ((x : X) → P x) → (xs : List X) → AllByRecursion P xs
  all_of P each [] = tt
  all_of P each (x ∷ xs) = (each x, all_of P each xs)

  pub all-append : (P : X → Type 0) (xs ys : List X) → AllByRecursion P xs → AllByRecursion P ys → AllByRecursion P (xs ++ ys)
  all-append P [] ys one two = two
  all-append P (x ∷ xs) ys one two = (one.0, all-append P xs ys one.1 two)

  -- at every place, also behind the last, where it holds of what is read there
  pub all_or : (P : X → Type 0) (xs : List X) (k : ℕ) (other : X) → AllByRecursion P xs → P other → P (get_or xs k other)
  all_or P [] k other all one = one
  all_or P (x ∷ xs) zero other all one = all.0
  all_or P (x ∷ xs) (suc k) other all one = all_or P xs k other all.1 one

  -- at a place of the list
  pub all_at : (P : X → Type 0) (xs : List X) (k : ℕ) (other : X) → AllByRecursion P xs → k < length xs → P (get_or xs k other)
  all_at P [] k other all within = absurd (omega (arith, within))
  all_at P (x ∷ xs) zero other all within = all.0
  all_at P (x ∷ xs) (suc k) other all within = all_at P xs k other all.1 (omega (arith, within))

  -- what a filter keeps passes too
  pub all_passed : (P : X → Type 0) (p : X → Bool) (xs : List X) → AllByRecursion P xs → AllByRecursion (λ x. P x × (p x ≡ true)) (filter p xs)
  all_passed P p [] all = tt
  all_passed P p (x ∷ xs) all = grind (arith, all_passed P p xs all.1)

  pub all-filter : (P : X → Type 0) (p : X → Bool) (xs : List X) → AllByRecursion P xs → AllByRecursion P (filter p xs)
  all-filter P p xs all = all_then (λ x. P x × (p x ≡ true)) P (λ x both. both.0) (filter p xs) (all_passed P p xs all)

  -- ---- elements that differ

  pub differ-filter : (p : X → Bool) (xs : List X) → AreDifferent xs → AreDifferent (filter p xs)
  differ-filter p [] differ = tt
  differ-filter p (x ∷ xs) differ = grind (arith, differ-filter p xs differ.1, all-filter)

  -- those that pass a test and those that don't are all
  pub length_parted : (p : X → Bool) (xs : List X) → length xs ≡ length (filter p xs) + length (filter (λ x. not (p x)) xs)
  length_parted p [] = refl
  length_parted p (x ∷ xs) = grind (arith, length_parted p xs)

  -- where all are the same and differ, there is one
  pub at_most_one : (P : X → Type 0) → ((x y : X) → P x → P y → x ≡ y) → (xs : List X) → AllByRecursion P xs → AreDifferent xs → length xs ≤ 1
  at_most_one P same [] all differ = omega arith
  at_most_one P same (x ∷ []) all differ = omega arith
  at_most_one P same (x ∷ y ∷ xs) all differ = absurd (differ.0.0 (same y x all.1.0 all.0))

  -- what holds of all holds of the images
  pub all_mapped : {Y : Type 0} (P : Y → Type 0) (f : X → Y) (xs : List X) → AllByRecursion (λ x. P (f x)) xs → AllByRecursion P (map f xs)
  all_mapped P f [] all = tt
  all_mapped P f (x ∷ xs) all = (all.0, all_mapped P f xs all.1)

  -- no element of two lists passes a test that none of both passes
  pub none_joined : (test : X → Bool) (xs ys : List X) → list_any test xs ≡ false → list_any test ys ≡ false → list_any test (xs ++ ys) ≡ false
  none_joined test [] ys one two = two
  none_joined test (x ∷ xs) ys one two =
      let parts = or_parts (test x) (list_any test xs) one in
      or_from (test x) (list_any test (xs ++ ys)) parts.0 (none_joined test xs ys parts.1 two)

  pub none_of_both : (test : X → Bool) (xs ys : List X) → list_any test (xs ++ ys) ≡ false → (list_any test xs ≡ false) × (list_any test ys ≡ false)
  none_of_both test xs ys none = grind (arith, common_steps, or_parts, or_from)

-- ---- elements that have numbers

module _ {X : Type 0} (number : X → ℕ) (injective : (a b : X) → number a ≡ number b → a ≡ b) where
  -- an element of that number is in the list
  abbrev pub is_in : X → List X → Bool
  is_in x ys = list_any (λ y. number y == number x) ys

  abbrev other_than : X → X → Bool
  other_than x y = not (number y == number x)

  fewer_without : (x : X) (ys : List X) → is_in x ys ≡ true → length (filter (other_than x) ys) + 1 ≤ length ys
  fewer_without x [] among = absurd (both_ways false refl among)
  fewer_without x (y ∷ ys) among = elim (cases_Bool (number y == number x)) [
    | inl e ↦ rw e (let rest = no_more ys in omega (arith, rest))
    | inr e ↦ let rest = fewer_without x ys (rw e at among) in rw e (omega (arith, rest))
  ]
    where
      no_more : (zs : List X) → length (filter (other_than x) zs) ≤ length zs
      no_more [] = omega arith
      no_more (z ∷ zs) = let rest = no_more zs in elim (cases_Bool (number z == number x)) [
        | inl e ↦ rw e (omega (arith, rest))
        | inr e ↦ rw e (omega (arith, rest))
      ]

  still_in : (x z : X) (ys : List X) → is_in z ys ≡ true → (number z ≡ number x → ⊥) → is_in z (filter (other_than x) ys) ≡ true
  still_in x z [] among other = absurd (both_ways false refl among)
  still_in x z (y ∷ ys) among other = elim (cases_Bool (number y == number x)) [
    | inl e ↦
        let off : (number y == number z) ≡ false = ne_eqb (number y) (number z) (λ same. other (sym same ∙ eqb-true (number y) (number x) e)) in
        rw e (still_in x z ys (rw off at among) other)
    | inr e ↦ rw e (elim (or_cases (number y == number z) (is_in z ys) among) [
      | inl here ↦ or_left (number y == number z) (is_in z (filter (other_than x) ys)) here
      | inr behind ↦ or_right (number y == number z) (is_in z (filter (other_than x) ys)) (still_in x z ys behind other)
    ])
  ]

  -- there are no more that differ than are in the list
  pub no_more_than : (xs ys : List X) → AreDifferent xs → AllByRecursion (λ x. is_in x ys ≡ true) xs → length xs ≤ length ys
  no_more_than [] ys differ all = omega arith
  no_more_than (x ∷ xs) ys differ all =
      let kept = stay xs all.1 differ.0 in
      let rest = no_more_than xs (filter (other_than x) ys) differ.1 kept in
      let fewer = fewer_without x ys all.0 in
      omega (arith, rest, fewer)
    where
      stay : (zs : List X) → AllByRecursion (λ z. is_in z ys ≡ true) zs → AllByRecursion (λ z. z ≢ x) zs
          → AllByRecursion (λ z. is_in z (filter (other_than x) ys) ≡ true) zs
      stay [] all others = tt
      stay (z ∷ zs) all others = (still_in x z ys all.0 (λ e. others.0 (injective z x e)), stay zs all.1 others.1)

-- a number that is in a list is such as all in it are
pub holds_of : (P : ℕ → Type 0) (n : ℕ) (xs : List ℕ) → AllByRecursion P xs → list_any (λ j. j == n) xs ≡ true → P n
holds_of P n [] all among = absurd (both_ways false refl among)
holds_of P n (x ∷ xs) all among = elim (or_cases (x == n) (list_any (λ j. j == n) xs) among) [
  | inl e ↦ subst P (eqb-true x n e) all.0
  | inr behind ↦ holds_of P n xs all.1 behind
]

-- ---- lists made of lists

module _ {X : Type 0} where
  -- no element of one list is one of another
  pub differ-append : (xs ys : List X) → AreDifferent xs → AreDifferent ys → AllByRecursion (λ x. AllByRecursion (λ y. y ≢ x) ys) xs → AreDifferent (xs ++ ys)
  differ-append [] ys one two apart = two
  differ-append (x ∷ xs) ys one two apart = (all-append (λ y. y ≢ x) xs ys one.0 apart.0, differ-append xs ys one.1 two apart.1)

  -- what is such as to be none of those that are otherwise
  pub all_apart : (P : X → Type 0) (Q : X → Type 0) → ((x : X) → P x → Q x → ⊥) → (xs ys : List X) → AllByRecursion P xs → AllByRecursion Q ys
      → AllByRecursion (λ x. AllByRecursion (λ y. y ≢ x) ys) xs
  all_apart P Q never [] ys one two = tt
  all_apart P Q never (x ∷ xs) ys one two =
      (all_then Q (λ y. y ≢ x) (λ y is same. never x one.0 (subst (λ (z : X). Q z) same is)) ys two, all_apart P Q never xs ys one.1 two)

  pub differ-map : {Y : Type 0} (f : X → Y) → ((a b : X) → f a ≡ f b → a ≡ b) → (xs : List X) → AreDifferent xs → AreDifferent (map f xs)
  differ-map f injective [] differ = tt
  differ-map f injective (x ∷ xs) differ = grind (arith, differ-map f injective xs differ.1, all_mapped, all_then)

  -- elements whose images differ do
  pub differ-unmap : {Y : Type 0} (f : X → Y) (xs : List X) → AreDifferent (map f xs) → AreDifferent xs
  differ-unmap f [] differ = tt
  differ-unmap f (x ∷ xs) differ = (unmap xs differ.0, differ-unmap f xs differ.1)
    where
      unmap : (ys : List X) → AllByRecursion (λ y. y ≢ f x) (map f ys) → AllByRecursion (λ y. y ≢ x) ys
      unmap [] all = tt
      unmap (y ∷ ys) all = ((λ same. all.0 (ap f same)), unmap ys all.1)

  pub all-flat_map : {Y : Type 0} (P : X → Type 0) (Q : Y → Type 0) (f : X → List Y) → ((x : X) → P x → AllByRecursion Q (f x)) → (xs : List X)
      → AllByRecursion P xs → AllByRecursion Q (flat_map f xs)
  all-flat_map P Q f step [] all = tt
  all-flat_map P Q f step (x ∷ xs) all = all-append Q (f x) (flat_map f xs) (step x all.0) (all-flat_map P Q f step xs all.1)

  pub all-map : {Y : Type 0} (P : X → Type 0) (Q : Y → Type 0) (f : X → Y) → ((x : X) → P x → Q (f x)) → (xs : List X) → AllByRecursion P xs
      → AllByRecursion Q (map f xs)
  all-map P Q f step xs all = all_mapped Q f xs (all_then P (λ x. Q (f x)) step xs all)

  pub differ-front : (xs ys : List X) → AreDifferent (xs ++ ys) → AreDifferent xs
  differ-front [] ys differ = tt
  differ-front (x ∷ xs) ys differ = (front xs differ.0, differ-front xs ys differ.1)
    where
      front : (zs : List X) → AllByRecursion (λ y. y ≢ x) (zs ++ ys) → AllByRecursion (λ y. y ≢ x) zs
      front [] all = tt
      front (z ∷ zs) all = (all.0, front zs all.1)

  -- what holds at every place holds of each
  pub all_listed : (P : X → Type 0) (xs : List X) → ((k : ℕ) (x : X) → slice_get xs k ≡ Some x → P x) → AllByRecursion P xs
  all_listed P [] at = tt
  all_listed P (x ∷ xs) at = (at 0 x refl, all_listed P xs (λ k y e. at (suc k) y e))

-- pieces whose elements bear the mark of what they are pieces of
pub differ-flat_map : {X Y : Type 0} (P : X → Type 0) (mark : Y → X) (f : X → List Y) → ((x : X) → AllByRecursion (λ y. mark y ≡ x) (f x))
    → ((x : X) → P x → AreDifferent (f x)) → (xs : List X) → AllByRecursion P xs → AreDifferent xs → AreDifferent (flat_map f xs)
differ-flat_map P mark f marked each [] all differ = tt
differ-flat_map P mark f marked each (x ∷ xs) all differ =
    differ-append (f x) (flat_map f xs) (each x all.0) (differ-flat_map P mark f marked each xs all.1 differ.1)
    (all_apart (λ y. mark y ≡ x) (λ y. mark y ≢ x) (λ y is other. other is) (f x) (flat_map f xs) (marked x)
    (all-flat_map (λ z. z ≢ x) (λ y. mark y ≢ x) f
    (λ z other. all_then (λ y. mark y ≡ z) (λ y. mark y ≢ x) (λ y is same. other (sym is ∙ same)) (f z) (marked z)) xs differ.0))

-- ---- numbers in order

-- the numbers below another are below it, and differ
pub numbers_below : (n : ℕ) → AllByRecursion (λ k. k < n) (numbers n)
numbers_below zero = tt
numbers_below (suc n) =
    all-append (λ k. k < suc n) (numbers n) (n ∷ []) (all_then (λ k. k < n) (λ k. k < suc n) (λ k less. omega (arith, less)) (numbers n) (numbers_below n))
    (omega arith, tt)

pub numbers_differ : (n : ℕ) → AreDifferent (numbers n)
numbers_differ zero = tt
numbers_differ (suc n) =
    differ-append (numbers n) (n ∷ []) (numbers_differ n) (tt, tt)
    (all_apart (λ k. k < n) (λ k. k ≡ n) (λ k less same. absurd (omega (arith, less, same))) (numbers n) (n ∷ []) (numbers_below n) (refl, tt))

-- each number is below those behind it
abbrev pub Climbs : List ℕ → Type 0
Climbs [] = Unit
Climbs (x ∷ xs) = AllByRecursion (λ y. x < y) xs × Climbs xs

pub climbs : (xs : List ℕ) → IsStrictlyIncreasing xs → Climbs xs
climbs xs rising = by xs (AllPairs-from_increasing xs rising)
  where
    by : (xs : List ℕ) → AllPairs (λ x y. x < y) xs → Climbs xs
    by [] pairs = tt
    by (x ∷ xs) pairs = (
      recursion_from_All (λ y. x < y) xs (λ k d below. pairs 0 (suc k) d (omega arith) (omega (arith, below))),
      by xs (λ i j d less below. pairs (suc i) (suc j) d (omega (arith, less)) (omega (arith, below))),
    )

-- rising numbers differ
pub rising_differ : (xs : List ℕ) → IsStrictlyIncreasing xs → AreDifferent xs
rising_differ xs rising = by xs (climbs xs rising)
  where
    by : (xs : List ℕ) → Climbs xs → AreDifferent xs
    by [] all = tt
    by (x ∷ xs) all = (all_then (λ y. x < y) (λ y. y ≢ x) (λ y less same. absurd (omega (arith, less, same))) xs all.0, by xs all.1)
