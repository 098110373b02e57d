-- Lists made piece by piece: what stands in them, and that what was put there is found again.
use Rattle.std.proofs.Common.{◌≡◌, sym, ap, subst, ℕ, zero, suc, ◌==◌, Bool, true, List, [], ◌∷◌, ◌++◌, Option, None, Some, inl, inr, true≢false}
use Rattle.std.specs.List.{AllByRecursion, find, flat_map, list_any, slice_get}
use Rattle.std.proofs.lemmas.Bool.{cases_Bool, eqb-true}
use Rattle.ipx_router.proofs.tables.HeldWasOffered.{nothing}

-- ---- what stands in a list

-- what holds of one element holds of any that is the same
pub it_is : {X : Type 0} (P : X → Type 0) (x y : X) → Some y ≡ Some x → P y → P x
it_is {X} P x y e is = subst (λ (z : X). P z) (ap (λ (o : Option _). elim o [ None ↦ y | Some z ↦ z ]) e) is

-- what holds of all holds of the one at a place
pub one_of_all : {X : Type 0} (P : X → Type 0) (xs : List X) (k : ℕ) (x : X) → AllByRecursion P xs → slice_get xs k ≡ Some x → P x
one_of_all P [] k x all e = nothing e
one_of_all P (y ∷ ys) zero x all e = it_is P x y e all.0
one_of_all P (y ∷ ys) (suc k) x all e = one_of_all P ys k x all.1 e

-- and of the first that passes a test
pub found : {X : Type 0} (P : X → Type 0) (test : X → Bool) (xs : List X) (x : X) → AllByRecursion P xs → find test xs ≡ Some x → P x
found P test [] x all e = nothing e
found P test (y ∷ ys) x all e = elim (cases_Bool (test y)) [
  | inl it ↦ it_is P x y (rw it at e) all.0
  | inr other ↦ found P test ys x all.1 (rw other at e)
]

-- ---- what was put into a list

-- what stands in one of two lists stands in both together
in_front : {X : Type 0} (xs ys : List X) (k : ℕ) (x : X) → slice_get xs k ≡ Some x → slice_get (xs ++ ys) k ≡ Some x
in_front [] ys k x e = nothing e
in_front (z ∷ xs) ys zero x e = e
in_front (z ∷ xs) ys (suc k) x e = in_front xs ys k x e

behind : {X : Type 0} (xs ys : List X) (k : ℕ) (x : X) → slice_get ys k ≡ Some x → (place : ℕ) × (slice_get (xs ++ ys) place ≡ Some x)
behind [] ys k x e = (k, e)
behind (z ∷ xs) ys k x e = let (place, there) = behind xs ys k x e in (suc place, there)

-- the piece of a number that is listed stands in the whole
pub piece_found : {Y : Type 0} (f : ℕ → List Y) (xs : List ℕ) (number k : ℕ) (y : Y) → list_any (λ j. j == number) xs ≡ true
    → slice_get (f number) k ≡ Some y → (place : ℕ) × (slice_get (flat_map f xs) place ≡ Some y)
piece_found f [] number k y listed there = absurd (true≢false (sym listed))
piece_found f (x ∷ xs) number k y listed there = elim (cases_Bool (x == number)) [
  | inl same ↦ (k, in_front (f x) (flat_map f xs) k y (rw (eqb-true x number same) there))
  | inr other ↦
      let (place, stands) = piece_found f xs number k y (rw other at listed) there in
      behind (f x) (flat_map f xs) place y stands
]
