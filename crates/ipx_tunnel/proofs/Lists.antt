-- Lists that are mapped and filtered.
use Rattle.std.proofs.lemmas.Grind.{common_steps}
use Rattle.std.proofs.Common.{◌≡◌, ◌∙◌, refl, sym, ap, ap₂, arith, ℕ, ◌+◌, ◌<◌, ◌≤◌, Bool, true, ◌||◌, cond, List, [], ◌∷◌, ◌++◌, length, map, filter, take, drop, get_or, set, length-set}
use Rattle.std.specs.List.{list_any, AllByRecursion, refill}
use Rattle.std.proofs.lemmas.List.{map_more, map-append, length-map, take_at, take_more_set, drop-set-lt, drop_more, take_all}
use Rattle.std.proofs.lemmas.List.Elements.{filter_more}

pub any-map : {X Y : Type 0} (p : Y → Bool) (f : X → Y) (xs : List X) → list_any p (map f xs) ≡ list_any (λ x. p (f x)) xs
any-map p f [] = refl
any-map p f (x ∷ xs) = ap (λ b. p (f x) || b) (any-map p f xs)

pub filter-map : {X Y : Type 0} (p : Y → Bool) (f : X → Y) (xs : List X) → filter p (map f xs) ≡ map f (filter (λ x. p (f x)) xs)
filter-map p f [] = refl
filter-map p f (x ∷ xs) = grind (arith, filter-map p f xs)

pub map-map : {X Y Z : Type 0} (g : Y → Z) (f : X → Y) (xs : List X) → map g (map f xs) ≡ map (λ x. g (f x)) xs
map-map g f [] = refl
map-map g f (x ∷ xs) = ap (λ l. g (f x) ∷ l) (map-map g f xs)

pub map-agree : {X Y : Type 0} (f g : X → Y) → ((x : X) → f x ≡ g x) → (xs : List X) → map f xs ≡ map g xs
map-agree f g same xs = grind arith

-- a loop that writes to each element what a function makes of it
pub record MapsInPlace {X : Type 0} (f : X → X) (xs ys : List X) (i : ℕ) : Type 0 where
  pub front : take i ys ≡ map f (take i xs)
  pub rest : drop i ys ≡ drop i xs
  pub long : length ys ≡ length xs

pub mapped_more : {X : Type 0} {f : X → X} {xs ys : List X} {i : ℕ} → MapsInPlace f xs ys i → i < length xs → (d y : X) → y ≡ f (get_or ys i d)
    → MapsInPlace f xs (set ys i y) (i + 1)
mapped_more {f = f} {xs = xs} {ys = ys} {i = i} m within d y is =
    let there : i < length ys = omega (arith, m.long) in
    let left : get_or ys i d ∷ drop (i + 1) ys ≡ get_or xs i d ∷ drop (i + 1) xs = sym (drop_more ys i d there) ∙ m.rest ∙ drop_more xs i d within in
    let same : get_or ys i d ≡ get_or xs i d = cc in
    let behind : drop (i + 1) ys ≡ drop (i + 1) xs = cc in
    record {
      front = take_more_set ys i y there ∙ ap₂ (λ l z. l ++ z ∷ []) m.front (is ∙ ap f same) ∙ sym (map_more f xs i d within);
      rest = drop-set-lt (i + 1) ys i y (omega arith) ∙ behind;
      long = length-set ys i y ∙ m.long;
    }

pub mapped_all : {X : Type 0} {f : X → X} {xs ys : List X} {i : ℕ} → MapsInPlace f xs ys i → length xs ≤ i → ys ≡ map f xs
mapped_all {f = f} {xs = xs} {ys = ys} {i = i} m all = grind (arith, take_all)

pub map-one : {X Y : Type 0} (f : X → Y) (x : X) (b : Bool) → map f (cond b (x ∷ []) []) ≡ cond b (f x ∷ []) []
map-one f x b = grind arith

-- the elements of a vector after that
pub refilled : {X : Type 0} (f : X → X) (xs lent written : List X) → lent ≡ xs → written ≡ map f lent → refill (length xs) xs written ≡ map f xs
refilled f xs lent written is done = grind (arith, take_at, length-map)

-- a loop that keeps what passes a test, as a function makes it
pub kept_more : {X Y : Type 0} (p : X → Bool) (f : X → Y) (xs : List X) (i : ℕ) (x : X) → i < length xs → x ≡ get_or xs i x
    → map f (filter p (take (i + 1) xs)) ≡ map f (filter p (take i xs)) ++ cond (p x) (f x ∷ []) []
kept_more p f xs i x within is = grind (arith, common_steps, filter_more, map-append, map-one)

-- ---- what holds of each element

pub each-append : {X : Type 0} (P : X → Type 0) (xs ys : List X) → AllByRecursion P xs → AllByRecursion P ys → AllByRecursion P (xs ++ ys)
each-append P xs ys one two = grind (arith, common_steps)

pub each-before : {X : Type 0} (P : X → Type 0) (xs ys : List X) → AllByRecursion P (xs ++ ys) → AllByRecursion P xs
each-before P [] ys all = tt
each-before P (x ∷ xs) ys all = (all.0, each-before P xs ys all.1)

pub each-filter : {X : Type 0} (p : X → Bool) (xs : List X) → AllByRecursion (λ x. p x ≡ true) (filter p xs)
each-filter p [] = tt
each-filter p (x ∷ xs) = grind (arith, each-filter p xs)

pub each-weaker : {X : Type 0} (P Q : X → Type 0) → ((x : X) → P x → Q x) → (xs : List X) → AllByRecursion P xs → AllByRecursion Q xs
each-weaker P Q step [] all = tt
each-weaker P Q step (x ∷ xs) all = (step x all.0, each-weaker P Q step xs all.1)

-- what passes whole stays whole
pub filter-each : {X : Type 0} (p : X → Bool) (xs : List X) → AllByRecursion (λ x. p x ≡ true) xs → filter p xs ≡ xs
filter-each p [] all = refl
filter-each p (x ∷ xs) all = rw all.0 (ap (λ l. x ∷ l) (filter-each p xs all.1))
