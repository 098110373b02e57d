-- What holds of the element that a search finds.
use Rattle.std.proofs.Common.{◌≡◌, sym, ap, subst, Bool, true, List, [], ◌∷◌, Option, None, Some, find, inl, inr, true≢false, is_some}
use Rattle.std.specs.List.{AllByRecursion}
use Rattle.std.proofs.lemmas.Bool.{cases_Bool}

pub nothing : {X : Type 0} {x : X} {A : Type 0} → None ≡ Some x → A
nothing e = absurd (true≢false (sym (ap is_some e)))

-- what holds of one element holds of any that is the same
pub it_is : {X : Type 0} (P : X → Type 0) (x y : X) → Some y ≡ Some x → P y → P x
it_is {X} P x y e is = subst (λ (z : X). P z) (ap (λ (o : Option _). elim o [ None ↦ y | Some z ↦ z ]) e) is

-- the first that passes a test is one of the list, and passes it
pub found : {X : Type 0} (P : X → Type 0) (test : X → Bool) (xs : List X) (x : X) → AllByRecursion P xs → find test xs ≡ Some x → P x × (test x ≡ true)
found P test [] x all e = nothing e
found P test (y ∷ ys) x all e = elim (cases_Bool (test y)) [
  | inl it ↦ it_is (λ z. P z × (test z ≡ true)) x y (rw it at e) (all.0, it)
  | inr other ↦ found P test ys x all.1 (rw other at e)
]
