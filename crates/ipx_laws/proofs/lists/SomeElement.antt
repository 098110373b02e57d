-- Lists that have such an element.
use Rattle.std.proofs.Common.{◌≡◌, refl, sym, ◌⊎◌, ℕ, suc, ◌≤◌, ◌==◌, Bool, true, false, List, [], ◌∷◌, ◌++◌, length, map, filter, find, flat_map, Option, None, Some, ap, inl, inr, arith, true≢false}
use Rattle.std.specs.List.{AllByRecursion, list_any}
use Rattle.std.proofs.lemmas.Bool.{cases_Bool, or_cases, eqb-true, both_ways}
use Rattle.ipx_router.specs.Sorted.{put, put_all, sorted}
use Rattle.ipx_internet.proofs.lists.FoundInAList.{nothing, it_is}

module _ {X : Type 0} where
  -- some element is such
  abbrev pub AnyIs : (X → Type 0) → List X → Type 0
  AnyIs P [] = ⊥
  AnyIs P (x ∷ xs) = P x ⊎ AnyIs P xs

  pub any_then : (P Q : X → Type 0) → ((x : X) → P x → Q x) → (xs : List X) → AnyIs P xs → AnyIs Q xs
  any_then P Q step [] any = absurd any
  any_then P Q step (x ∷ xs) (inl here) = inl (step x here)
  any_then P Q step (x ∷ xs) (inr behind) = inr (any_then P Q step xs behind)

  -- and such as all are
  pub any_and_all : (P A : X → Type 0) (xs : List X) → AnyIs P xs → AllByRecursion A xs → AnyIs (λ x. P x × A x) xs
  any_and_all P A [] any all = absurd any
  any_and_all P A (x ∷ xs) (inl here) all = inl (here, all.0)
  any_and_all P A (x ∷ xs) (inr behind) all = inr (any_and_all P A xs behind all.1)

  -- that element
  pub the_one : (P : X → Type 0) (xs : List X) → AnyIs P xs → (x : X) × P x
  the_one P [] any = absurd any
  the_one P (x ∷ xs) (inl here) = (x, here)
  the_one P (x ∷ xs) (inr behind) = the_one P xs behind

  pub any_in_front : (P : X → Type 0) (xs ys : List X) → AnyIs P xs → AnyIs P (xs ++ ys)
  any_in_front P [] ys any = absurd any
  any_in_front P (x ∷ xs) ys (inl here) = inl here
  any_in_front P (x ∷ xs) ys (inr behind) = inr (any_in_front P xs ys behind)

  pub any_behind : (P : X → Type 0) (xs ys : List X) → AnyIs P ys → AnyIs P (xs ++ ys)
  any_behind P [] ys any = any
  any_behind P (x ∷ xs) ys any = inr (any_behind P xs ys any)

  -- a filter keeps what passes
  pub any-filter : (P : X → Type 0) (test : X → Bool) → ((x : X) → P x → test x ≡ true) → (xs : List X) → AnyIs P xs → AnyIs P (filter test xs)
  any-filter P test passes [] any = absurd any
  any-filter P test passes (x ∷ xs) (inl here) = grind arith
  any-filter P test passes (x ∷ xs) (inr behind) = grind (arith, any-filter P test passes xs behind)

  -- one that passes a test
  pub any_passes : (test : X → Bool) (xs : List X) → list_any test xs ≡ true → AnyIs (λ x. test x ≡ true) xs
  any_passes test [] e = true≢false (sym e)
  any_passes test (x ∷ xs) e = elim (or_cases (test x) (list_any test xs) e) [
    | inl here ↦ inl here
    | inr behind ↦ inr (any_passes test xs behind)
  ]

  pub passes_any : (test : X → Bool) (xs : List X) → AnyIs (λ x. test x ≡ true) xs → list_any test xs ≡ true
  passes_any test [] any = absurd any
  passes_any test (x ∷ xs) (inl here) = rw here refl
  passes_any test (x ∷ xs) (inr behind) = grind (arith, passes_any test xs behind)

  -- ---- in order

  pub any-put : (P : X → Type 0) (before : X → X → Bool) (x : X) (xs : List X) → P x ⊎ AnyIs P xs → AnyIs P (put before x xs)
  any-put P before x [] any = any
  any-put P before x (y ∷ ys) any = elim (cases_Bool (before x y)) [
    | inl e ↦ rw e any
    | inr e ↦ rw e (by (any-put P before x ys) any)
  ]
    where
      by : (P x ⊎ AnyIs P ys → AnyIs P (put before x ys)) → P x ⊎ AnyIs P (y ∷ ys) → P y ⊎ AnyIs P (put before x ys)
      by rest (inl here) = inr (rest (inl here))
      by rest (inr (inl next)) = inl next
      by rest (inr (inr behind)) = inr (rest (inr behind))

  any-put_all : (P : X → Type 0) (before : X → X → Bool) (placed xs : List X) → AnyIs P placed ⊎ AnyIs P xs → AnyIs P (put_all before placed xs)
  any-put_all P before placed [] (inl any) = any
  any-put_all P before placed [] (inr any) = absurd any
  any-put_all P before placed (x ∷ xs) (inl any) = any-put_all P before (put before x placed) xs (inl (any-put P before x placed (inr any)))
  any-put_all P before placed (x ∷ xs) (inr (inl here)) = any-put_all P before (put before x placed) xs (inl (any-put P before x placed (inl here)))
  any-put_all P before placed (x ∷ xs) (inr (inr behind)) = any-put_all P before (put before x placed) xs (inr behind)

  pub any-sorted : (P : X → Type 0) (before : X → X → Bool) (xs : List X) → AnyIs P xs → AnyIs P (sorted before xs)
  any-sorted P before xs any = any-put_all P before [] xs (inr any)

-- ---- images

pub any-map : {X Y : Type 0} (P : X → Type 0) (Q : Y → Type 0) (f : X → Y) → ((x : X) → P x → Q (f x)) → (xs : List X) → AnyIs P xs → AnyIs Q (map f xs)
any-map P Q f step [] any = absurd any
any-map P Q f step (x ∷ xs) (inl here) = inl (step x here)
any-map P Q f step (x ∷ xs) (inr behind) = inr (any-map P Q f step xs behind)

-- of what an image is
pub any_mapped : {X Y : Type 0} (Q : Y → Type 0) (f : X → Y) (xs : List X) → AnyIs Q (map f xs) → AnyIs (λ x. Q (f x)) xs
any_mapped Q f [] any = absurd any
any_mapped Q f (x ∷ xs) (inl here) = inl here
any_mapped Q f (x ∷ xs) (inr behind) = inr (any_mapped Q f xs behind)

pub any-flat_map : {X Y : Type 0} (P : X → Type 0) (Q : Y → Type 0) (f : X → List Y) → ((x : X) → P x → AnyIs Q (f x)) → (xs : List X) → AnyIs P xs
    → AnyIs Q (flat_map f xs)
any-flat_map P Q f step [] any = absurd any
any-flat_map P Q f step (x ∷ xs) (inl here) = any_in_front Q (f x) (flat_map f xs) (step x here)
any-flat_map P Q f step (x ∷ xs) (inr behind) = any_behind Q (f x) (flat_map f xs) (any-flat_map P Q f step xs behind)

-- ---- what is found

-- it is one of the list, and passes the test
pub found_with : {X : Type 0} (P : X → Type 0) (test : X → Bool) (xs : List X) (x : X) → AllByRecursion P xs → find test xs ≡ Some x → P x × (test x ≡ true)
found_with P test [] x all e = nothing e
found_with P test (y ∷ ys) x all e = elim (cases_Bool (test y)) [
  | inl passes ↦ it_is (λ z. P z × (test z ≡ true)) x y (rw passes at e) (all.0, passes)
  | inr other ↦ found_with P test ys x all.1 (rw other at e)
]

-- where no more than one passes a test, it is the one that is found
pub only_found : {X : Type 0} (test : X → Bool) (xs : List X) (x : X) → length (filter test xs) ≤ 1 → find test xs ≡ Some x
    → AllByRecursion (λ y. test y ≡ true → y ≡ x) xs
only_found test [] x few e = tt
only_found {X} test (y ∷ ys) x few e = elim (cases_Bool (test y)) [
  | inl here ↦
      let less : suc (length (filter test ys)) ≤ 1 = rw here at few in
      ((λ again. it_is (λ (z : X). y ≡ z) x y (rw here at e) refl), none_pass ys (omega (arith, less)))
  | inr other ↦ ((λ again. absurd (both_ways (test y) other again)), only_found test ys x (rw other at few) (rw other at e))
]
  where
    none_pass : (zs : List X) → length (filter test zs) ≤ 0 → AllByRecursion (λ z. test z ≡ true → z ≡ x) zs
    none_pass [] none = tt
    none_pass (z ∷ zs) none = elim (cases_Bool (test z)) [
      | inl here ↦
          let less : suc (length (filter test zs)) ≤ 0 = rw here at none in
          absurd (omega (arith, less))
      | inr other ↦ ((λ again. absurd (both_ways (test z) other again)), none_pass zs (rw other at none))
    ]

-- what is found is in the list
pub find_any : {X : Type 0} (test : X → Bool) (xs : List X) (x : X) → find test xs ≡ Some x → AnyIs (λ y. y ≡ x) xs
find_any test [] x e = nothing e
find_any test (y ∷ ys) x e = elim (cases_Bool (test y)) [
  | inl passes ↦ inl (it_is (λ z. y ≡ z) x y (rw passes at e) refl)
  | inr other ↦ inr (find_any test ys x (rw other at e))
]

-- something is where something passes
pub found_some : {X : Type 0} (test : X → Bool) (xs : List X) → AnyIs (λ x. test x ≡ true) xs → find test xs ≡ None → ⊥
found_some test [] any e = any
found_some test (x ∷ xs) (inl here) e = true≢false (sym (ap (λ (o : Option _). elim o [ None ↦ true | Some y ↦ false ]) (rw here at e)))
found_some test (x ∷ xs) (inr behind) e = elim (cases_Bool (test x)) [
  | inl here ↦ true≢false (sym (ap (λ (o : Option _). elim o [ None ↦ true | Some y ↦ false ]) (rw here at e)))
  | inr other ↦ found_some test xs behind (rw other at e)
]

-- a number among others
pub number_any : (j : ℕ) (up : List ℕ) → list_any (λ k. k == j) up ≡ true → AnyIs (λ k. k ≡ j) up
number_any j up on = any_then (λ k. (k == j) ≡ true) (λ k. k ≡ j) (λ k e. eqb-true k j e) up (any_passes (λ k. k == j) up on)
