-- Lists that are the same have the same first element and the same rest.
use Rattle.std.proofs.Common.{◌≡◌, ap, List, [], ◌∷◌, length, arith}

pub first_of : {X : Type 0} (x y : X) (xs ys : List X) → x ∷ xs ≡ y ∷ ys → x ≡ y
first_of x y xs ys e = ap (λ (zs : List _). elim zs [ [] ↦ x | ◌∷◌ z behind ↦ z ]) e

pub rest_of : {X : Type 0} (x y : X) (xs ys : List X) → x ∷ xs ≡ y ∷ ys → xs ≡ ys
rest_of x y xs ys e = ap (λ (zs : List _). elim zs [ [] ↦ xs | ◌∷◌ z behind ↦ behind ]) e

pub none_first : {X : Type 0} {A : Type 0} (x : X) (xs : List X) → [] ≡ x ∷ xs → A
none_first x xs e = absurd (omega (arith, ap length e))
