-- What is made of each element of a list and of its place.
use Rattle.std.proofs.Common.{◌≡◌, ◌∙◌, refl, sym, ap, ap₂, arith, ℕ, zero, suc, ◌+◌, ◌<◌, List, [], ◌∷◌, ◌++◌, length, map, take, get_or, length-take-le, slice_get, option_map, Some, add-zero}
use Rattle.std.specs.List.{enumerate_from}
use Rattle.std.proofs.lemmas.List.{take_more, length-map}
use Rattle.std.proofs.lemmas.List.FromFn.{length-enumerate_from}

module _ {X Y : Type 0} (f : ℕ × X → Y) where
  made_append : (n : ℕ) (xs : List X) (y : X) → map f (enumerate_from n (xs ++ y ∷ [])) ≡ map f (enumerate_from n xs) ++ f (n + length xs, y) ∷ []
  made_append n [] y = ap (λ (m : ℕ). f (m, y) ∷ []) (sym (add-zero n))
  made_append n (x ∷ xs) y =
      let place : n + 1 + length xs ≡ n + suc (length xs) = omega arith in
      ap (λ (l : List Y). f (n, x) ∷ l) (made_append (n + 1) xs y)
      ∙ ap (λ (m : ℕ). f (n, x) ∷ map f (enumerate_from (n + 1) xs) ++ f (m, y) ∷ []) place

  -- a loop's step
  pub made_more : (xs : List X) (i : ℕ) (d : X) → i < length xs
      → map f (enumerate_from 0 (take (i + 1) xs)) ≡ map f (enumerate_from 0 (take i xs)) ++ f (i, get_or xs i d) ∷ []
  made_more xs i d within =
      let long : 0 + length (take i xs) ≡ i = grind (arith, length-take-le) in
      ap (λ (l : List X). map f (enumerate_from 0 l)) (take_more xs i d within)
      ∙ made_append 0 (take i xs) (get_or xs i d)
      ∙ ap (λ (m : ℕ). map f (enumerate_from 0 (take i xs)) ++ f (m, get_or xs i d) ∷ []) long

  pub made_push : (xs : List X) (i : ℕ) (d : X) (old new : List Y) (y : Y) → i < length xs → old ≡ map f (enumerate_from 0 (take i xs))
      → y ≡ f (i, get_or xs i d) → new ≡ old ++ y ∷ [] → new ≡ map f (enumerate_from 0 (take (i + 1) xs))
  made_push xs i d old new y within before is pushed =
      pushed ∙ ap₂ (λ (l : List Y) (z : Y). l ++ z ∷ []) before is ∙ sym (made_more xs i d within)

  pub made_long : (xs : List X) → length (map f (enumerate_from 0 xs)) ≡ length xs
  made_long xs = length-map (enumerate_from 0 xs) f ∙ length-enumerate_from 0 xs

  made_at : (n : ℕ) (xs : List X) (k : ℕ) → slice_get (map f (enumerate_from n xs)) k ≡ option_map (λ x. f (n + k, x)) (slice_get xs k)
  made_at n [] k = refl
  made_at n (x ∷ xs) zero = ap (λ (m : ℕ). Some (f (m, x))) (sym (add-zero n))
  made_at n (x ∷ xs) (suc k) =
      let place : n + 1 + k ≡ n + suc k = omega arith in
      made_at (n + 1) xs k ∙ ap (λ (m : ℕ). option_map (λ y. f (m, y)) (slice_get xs k)) place

  -- what is made of the element at a place
  pub made_there : (xs : List X) (k : ℕ) → slice_get (map f (enumerate_from 0 xs)) k ≡ option_map (λ x. f (k, x)) (slice_get xs k)
  made_there xs k =
      let place : 0 + k ≡ k = omega arith in
      made_at 0 xs k ∙ ap (λ (m : ℕ). option_map (λ y. f (m, y)) (slice_get xs k)) place
