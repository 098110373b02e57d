-- The words of a line that were read, one after the other.
use Rattle.std.proofs.Common.{◌≡◌, ℕ, zero, suc, ◌+◌, ◌<◌, ◌≤◌, List, [], ◌∷◌, take, drop, refl, ap, arith, Some, None}
use Rattle.std.specs.Prelude.{slice_get}
use Rattle.std.proofs.lemmas.Option.{same_Some}

module _ {X : Type 0} where
  -- the next one
  pub next_read : (xs : List X) (at read : ℕ) (x : X) → slice_get xs at ≡ Some x → at < read → drop at (take read xs) ≡ x ∷ drop (at + 1) (take read xs)
  next_read [] at read x e less = absurd cc
  next_read (y ∷ xs) zero zero x e less = absurd (omega (arith, less))
  next_read (y ∷ xs) zero (suc read) x e less = ap (λ v. v ∷ take read xs) (same_Some y x e)
  next_read (y ∷ xs) (suc at) zero x e less = absurd (omega (arith, less))
  next_read (y ∷ xs) (suc at) (suc read) x e less =
      let more : suc at + 1 ≡ suc (at + 1) = omega arith in
      rw more (next_read xs at read x e (omega (arith, less)))

  nothing_left : (at : ℕ) → drop {A = X} at [] ≡ []
  nothing_left zero = refl
  nothing_left (suc at) = refl

  -- none is left
  pub none_read : (xs : List X) (at read : ℕ) → slice_get xs at ≡ None → drop at (take read xs) ≡ []
  none_read [] at zero e = nothing_left at
  none_read [] at (suc read) e = nothing_left at
  none_read (y ∷ xs) zero read e = absurd cc
  none_read (y ∷ xs) (suc at) zero e = refl
  none_read (y ∷ xs) (suc at) (suc read) e = none_read xs at read e

  pub all_read : (xs : List X) (at read : ℕ) → read ≤ at → drop at (take read xs) ≡ []
  all_read xs at zero le = nothing_left at
  all_read [] at (suc read) le = nothing_left at
  all_read (y ∷ xs) zero (suc read) le = absurd (omega (arith, le))
  all_read (y ∷ xs) (suc at) (suc read) le = all_read xs at read (omega (arith, le))
