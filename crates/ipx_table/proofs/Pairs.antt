-- Two lists of one length, seen as the list of their pairs.
use Rattle.std.proofs.Common.{◌≡◌, refl, sym, ap, ℕ, zero, suc, List, [], ◌∷◌, length, insert, set, remove, take, slice_get, Option, None, Some, is_some, arith, true≢false}
use Rattle.std.specs.List.{zip}
use Rattle.std.specs.Option.{option_zip}

module _ {A B : Type 0} where
  pub length-pairs : (xs : List A) (ys : List B) → length ys ≡ length xs → length (zip xs ys) ≡ length xs
  length-pairs [] ys e = refl
  length-pairs (x ∷ xs) [] e = absurd (omega (arith, e))
  length-pairs (x ∷ xs) (y ∷ ys) e = ap suc (length-pairs xs ys (omega (arith, e)))

  pub insert-pairs : (xs : List A) (ys : List B) (k : ℕ) (x : A) (y : B) → length ys ≡ length xs → zip (insert xs k x) (insert ys k y) ≡ insert (zip xs ys) k (x, y)
  insert-pairs xs ys zero x y e = refl
  insert-pairs [] [] (suc k) x y e = refl
  insert-pairs [] (b ∷ ys) (suc k) x y e = absurd (omega (arith, e))
  insert-pairs (a ∷ xs) [] (suc k) x y e = absurd (omega (arith, e))
  insert-pairs (a ∷ xs) (b ∷ ys) (suc k) x y e = ap (λ rest. (a, b) ∷ rest) (insert-pairs xs ys k x y (omega (arith, e)))

  pub set-pairs : (xs : List A) (ys : List B) (k : ℕ) (x : A) (y : B) → length ys ≡ length xs → zip (set xs k x) (set ys k y) ≡ set (zip xs ys) k (x, y)
  set-pairs [] [] k x y e = refl
  set-pairs [] (b ∷ ys) k x y e = absurd (omega (arith, e))
  set-pairs (a ∷ xs) [] k x y e = absurd (omega (arith, e))
  set-pairs (a ∷ xs) (b ∷ ys) zero x y e = refl
  set-pairs (a ∷ xs) (b ∷ ys) (suc k) x y e = ap (λ rest. (a, b) ∷ rest) (set-pairs xs ys k x y (omega (arith, e)))

  pub remove-pairs : (xs : List A) (ys : List B) (k : ℕ) → length ys ≡ length xs → zip (remove xs k) (remove ys k) ≡ remove (zip xs ys) k
  remove-pairs [] [] zero e = refl
  remove-pairs [] [] (suc k) e = refl
  remove-pairs [] (b ∷ ys) k e = absurd (omega (arith, e))
  remove-pairs (a ∷ xs) [] k e = absurd (omega (arith, e))
  remove-pairs (a ∷ xs) (b ∷ ys) zero e = refl
  remove-pairs (a ∷ xs) (b ∷ ys) (suc k) e = ap (λ rest. (a, b) ∷ rest) (remove-pairs xs ys k (omega (arith, e)))

  pub get-pairs : (xs : List A) (ys : List B) (k : ℕ) (x : A) (y : B) → slice_get xs k ≡ Some x → slice_get ys k ≡ Some y → slice_get (zip xs ys) k ≡ Some (x, y)
  get-pairs [] ys k x y ex ey = absurd (true≢false (sym (ap is_some ex)))
  get-pairs (a ∷ xs) [] k x y ex ey = absurd (true≢false (sym (ap is_some ey)))
  get-pairs (a ∷ xs) (b ∷ ys) zero x y ex ey = grind arith
  get-pairs (a ∷ xs) (b ∷ ys) (suc k) x y ex ey = get-pairs xs ys k x y ex ey

  pub zip-get : (xs : List A) (ys : List B) (k : ℕ) → length ys ≡ length xs → option_zip (slice_get xs k) (slice_get ys k) ≡ slice_get (zip xs ys) k
  zip-get [] [] k e = refl
  zip-get [] (b ∷ ys) k e = absurd (omega (arith, e))
  zip-get (a ∷ xs) [] k e = absurd (omega (arith, e))
  zip-get (a ∷ xs) (b ∷ ys) zero e = refl
  zip-get (a ∷ xs) (b ∷ ys) (suc k) e = zip-get xs ys k (omega (arith, e))

  pub take-pairs : (xs : List A) (ys : List B) (k : ℕ) → zip (take k xs) (take k ys) ≡ take k (zip xs ys)
  take-pairs xs ys zero = refl
  take-pairs [] ys (suc k) = refl
  take-pairs (a ∷ xs) [] (suc k) = refl
  take-pairs (a ∷ xs) (b ∷ ys) (suc k) = ap (λ rest. (a, b) ∷ rest) (take-pairs xs ys k)

-- a pair whose second item is written anew
pub renew-pairs : {A B : Type 0} (xs : List A) (ys : List B) (k : ℕ) (p : A × B) (y : B) → slice_get (zip xs ys) k ≡ Some p
    → zip xs (set ys k y) ≡ set (zip xs ys) k (p.0, y)
renew-pairs [] ys k p y e = refl
renew-pairs (a ∷ xs) [] k p y e = refl
renew-pairs (a ∷ xs) (b ∷ ys) zero p y e = grind arith
renew-pairs (a ∷ xs) (b ∷ ys) (suc k) p y e = ap (λ rest. (a, b) ∷ rest) (renew-pairs xs ys k p y e)

pub set-same : {X : Type 0} (xs : List X) (k : ℕ) (x : X) → slice_get xs k ≡ Some x → set xs k x ≡ xs
set-same [] k x e = absurd (true≢false (sym (ap is_some e)))
set-same (y ∷ xs) zero x e = ap (λ (o : Option _). elim o [ None ↦ x ∷ xs | Some z ↦ z ∷ xs ]) (sym e)
set-same (y ∷ xs) (suc k) x e = ap (λ rest. y ∷ rest) (set-same xs k x e)
