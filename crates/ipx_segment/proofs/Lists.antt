-- Lists whose elements are changed in place, and what passes a test.
use Rattle.std.proofs.Common.{◌≡◌, ◌∙◌, refl, sym, ap, ap₂, arith, ℕ, ◌+◌, ◌<◌, ◌≤◌, Bool, true, false, inl, inr, Option, None, Some, filter, List, [], ◌∷◌, ◌++◌, length, map, take, drop, get_or, set, length-set}
use Rattle.std.specs.List.{refill, find, AllByRecursion}
use Rattle.std.proofs.lemmas.Bool.{cases_Bool}
use Rattle.std.proofs.lemmas.List.{map_more, length-map, take_at, take_more_set, drop-set-lt, drop_more}

-- a loop that writes to each element what a function makes of it
pub record MapsInPlace {X : Type 0} (f : X → X) (xs ys : List X) (i : ℕ) : Type 0 where
  pub front : take i ys ≡ map f (take i xs)
  pub rest : drop i ys ≡ drop i xs
  pub long : length ys ≡ length xs

pub mapped_more : {X : Type 0} {f : X → X} {xs ys : List X} {i : ℕ} → MapsInPlace f xs ys i → i < length xs → (d y : X) → y ≡ f (get_or ys i d)
    → MapsInPlace f xs (set ys i y) (i + 1)
mapped_more {f = f} {xs = xs} {ys = ys} {i = i} m within d y is =
    let there : i < length ys = omega (arith, m.long) in
    let left : get_or ys i d ∷ drop (i + 1) ys ≡ get_or xs i d ∷ drop (i + 1) xs = sym (drop_more ys i d there) ∙ m.rest ∙ drop_more xs i d within in
    let same : get_or ys i d ≡ get_or xs i d = cc in
    let behind : drop (i + 1) ys ≡ drop (i + 1) xs = cc in
    record {
      front = take_more_set ys i y there ∙ ap₂ (λ l z. l ++ z ∷ []) m.front (is ∙ ap f same) ∙ sym (map_more f xs i d within);
      rest = drop-set-lt (i + 1) ys i y (omega arith) ∙ behind;
      long = length-set ys i y ∙ m.long;
    }

-- the elements of a vector after that
pub refilled : {X : Type 0} (f : X → X) (xs lent written : List X) → lent ≡ xs → written ≡ map f lent → refill (length xs) xs written ≡ map f xs
refilled f xs lent written is done = grind (arith, take_at, length-map)

-- ---- what passes a test

abbrev pub first : {X : Type 0} → List X → Option X
first [] = None
first (x ∷ xs) = Some x

pub find_first : {X : Type 0} (p : X → Bool) (xs : List X) → find p xs ≡ first (filter p xs)
find_first p [] = refl
find_first p (x ∷ xs) = elim (cases_Bool (p x)) [ inl e ↦ rw e refl | inr e ↦ rw e (find_first p xs) ]

pub filter-swap : {X : Type 0} (p q : X → Bool) (xs : List X) → filter p (filter q xs) ≡ filter q (filter p xs)
filter-swap p q [] = refl
filter-swap p q (x ∷ xs) = grind (arith, filter-swap p q xs)

-- a function that changes nothing of what is asked
pub filter-map : {X : Type 0} (p : X → Bool) (f : X → X) → ((x : X) → p (f x) ≡ p x) → (xs : List X) → filter p (map f xs) ≡ map f (filter p xs)
filter-map p f same [] = refl
filter-map p f same (x ∷ xs) = grind (arith, filter-map p f same xs)

pub filter_few : {X : Type 0} (p : X → Bool) (xs : List X) → length (filter p xs) ≤ length xs
filter_few p [] = omega arith
filter_few p (x ∷ xs) = grind (arith, filter_few p xs)

pub each-filter : {X : Type 0} (p : X → Bool) (xs : List X) → AllByRecursion (λ x. p x ≡ true) (filter p xs)
each-filter p [] = tt
each-filter p (x ∷ xs) = elim (cases_Bool (p x)) [ inl e ↦ rw e (e, each-filter p xs) | inr e ↦ rw e (each-filter p xs) ]

-- ---- one element

pub filter_one : {X : Type 0} (p : X → Bool) (x : X) → p x ≡ true → filter p (x ∷ []) ≡ x ∷ []
filter_one p x e = rw e refl

pub filter_none : {X : Type 0} (p : X → Bool) (x : X) → p x ≡ false → filter p (x ∷ []) ≡ []
filter_none p x e = rw e refl
