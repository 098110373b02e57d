-- The items of a list that pass a test, when one item changes.
use Rattle.std.proofs.Common.{◌≡◌, ◌∙◌, refl, sym, ap, arith, ℕ, suc, ◌+◌, ◌<◌, Bool, true, false, cond, ◌||◌, nat_lt, ◌≤◌, List, [], ◌∷◌, ◌++◌, length, length-append, map, filter, take, drop, get_or, set, Option, None, Some, inl, inr, add-one}
use Rattle.std.specs.List.{find, list_any, position, position_or_len}
use Rattle.std.proofs.lemmas.Bool.{cases_Bool, cases_lt, both_ways, lt-ltb}
use Rattle.std.proofs.lemmas.List.{set_split, take-append-drop, drop_more}
use Rattle.std.proofs.lemmas.List.Elements.{filter-append}
use Rattle.std.proofs.lemmas.List.Sums.{fails_before_first}

-- ---- the first that passes

abbrev pub head : {X : Type 0} → List X → Option X
head [] = None
head (x ∷ xs) = Some x

pub find_first : {X : Type 0} (p : X → Bool) (xs : List X) → find p xs ≡ head (filter p xs)
find_first p [] = refl
find_first p (x ∷ xs) = elim (cases_Bool (p x)) [
  | inl e ↦ rw e refl
  | inr e ↦ rw e (find_first p xs)
]

-- ---- one item is set

pub filter_at : {X : Type 0} (p : X → Bool) (xs : List X) (i : ℕ) (d : X) → i < length xs
    → filter p xs ≡ filter p (take i xs) ++ filter p (get_or xs i d ∷ drop (i + 1) xs)
filter_at p xs i d within =
    ap (λ l. filter p l) (sym (take-append-drop i xs))
    ∙ filter-append p (take i xs) (drop i xs)
    ∙ ap (λ l. filter p (take i xs) ++ filter p l) (drop_more xs i d within)

pub filter_set : {X : Type 0} (p : X → Bool) (xs : List X) (i : ℕ) (y : X) → i < length xs
    → filter p (set xs i y) ≡ filter p (take i xs) ++ filter p (y ∷ drop (i + 1) xs)
filter_set p xs i y within =
    ap (λ l. filter p l) (set_split xs i y within)
    ∙ filter-append p (take i xs) (y ∷ drop (suc i) xs)
    ∙ ap (λ n. filter p (take i xs) ++ filter p (y ∷ drop n xs)) (sym (add-one i))

-- what passes is the same where neither passes
pub neither_passes : {X : Type 0} (p : X → Bool) (xs : List X) (i : ℕ) (d y : X) → i < length xs → p (get_or xs i d) ≡ false → p y ≡ false
    → filter p (set xs i y) ≡ filter p xs
neither_passes p xs i d y within old new =
    let after : filter p (set xs i y) ≡ filter p (take i xs) ++ filter p (drop (i + 1) xs) = filter_set p xs i y within ∙ rw new refl in
    let before : filter p xs ≡ filter p (take i xs) ++ filter p (drop (i + 1) xs) = filter_at p xs i d within ∙ rw old refl in
    after ∙ sym before

no_more : {X : Type 0} (front : List X) (a : X) (back : List X) (s : X) → front ++ (a ∷ back) ≡ s ∷ [] → (front ≡ []) × (back ≡ [])
no_more [] a [] s is = (refl, refl)
no_more [] a (b ∷ back) s is = absurd (omega (arith, ap length is))
no_more (f ∷ front) a back s is = absurd (omega (arith, ap length is, length-append front (a ∷ back)))

none_at_all : {X : Type 0} (front back : List X) → front ++ back ≡ [] → (front ≡ []) × (back ≡ [])
none_at_all [] [] is = (refl, refl)
none_at_all [] (b ∷ back) is = absurd (omega (arith, ap length is))
none_at_all (f ∷ front) back is = absurd (omega (arith, ap length is))

-- the only one that passes is replaced by one that passes
pub replaced : {X : Type 0} (p : X → Bool) (xs : List X) (i : ℕ) (d y s : X) → i < length xs → p (get_or xs i d) ≡ true → p y ≡ true
    → filter p xs ≡ s ∷ [] → filter p (set xs i y) ≡ y ∷ []
replaced p xs i d y s within old new is =
    let before : filter p (take i xs) ++ (get_or xs i d ∷ filter p (drop (i + 1) xs)) ≡ s ∷ [] = ap (λ b. filter p (take i xs) ++ cond b (get_or xs i d ∷ filter p (drop (i + 1) xs)) (filter p (drop (i + 1) xs))) (sym old) ∙ sym (filter_at p xs i d within) ∙ is in
    let (front, back) = no_more (filter p (take i xs)) (get_or xs i d) (filter p (drop (i + 1) xs)) s before in
    filter_set p xs i y within ∙ rw (new, front, back) refl

-- where none passes, one is added that passes
pub added : {X : Type 0} (p : X → Bool) (xs : List X) (i : ℕ) (d y : X) → i < length xs → p (get_or xs i d) ≡ false → p y ≡ true
    → filter p xs ≡ [] → filter p (set xs i y) ≡ y ∷ []
added p xs i d y within old new is =
    let before : filter p (take i xs) ++ filter p (drop (i + 1) xs) ≡ [] = ap (λ b. filter p (take i xs) ++ cond b (get_or xs i d ∷ filter p (drop (i + 1) xs)) (filter p (drop (i + 1) xs))) (sym old) ∙ sym (filter_at p xs i d within) ∙ is in
    let (front, back) = none_at_all (filter p (take i xs)) (filter p (drop (i + 1) xs)) before in
    filter_set p xs i y within ∙ rw (new, front, back) refl

-- ---- each item changes: who passes then passed before

pub filter_mapped : {X : Type 0} (p : X → Bool) (f : X → X) → ((x : X) → p x ≡ false → p (f x) ≡ false) → (xs : List X)
    → filter p (map f xs) ≡ filter p (map f (filter p xs))
filter_mapped p f keeps [] = refl
filter_mapped p f keeps (x ∷ xs) = elim (cases_Bool (p x)) [
  | inl e ↦ rw e (ap (λ l. cond (p (f x)) (f x ∷ l) l) (filter_mapped p f keeps xs))
  | inr e ↦ rw (e, keeps x e) (filter_mapped p f keeps xs)
]

-- ---- what passes

pub somebody_passes : {X : Type 0} (p : X → Bool) (xs : List X) (i : ℕ) (d : X) → i < length xs → p (get_or xs i d) ≡ true → filter p xs ≡ [] → ⊥
somebody_passes p xs i d within passes none =
    let all : filter p xs ≡ filter p (take i xs) ++ (get_or xs i d ∷ filter p (drop (i + 1) xs)) = filter_at p xs i d within ∙ rw passes refl in
    let count = length-append (filter p (take i xs)) (get_or xs i d ∷ filter p (drop (i + 1) xs)) in
    absurd (omega (arith, ap length none, ap length all, count))

pub first_passes : {X : Type 0} (p : X → Bool) (xs : List X) (s : X) → head (filter p xs) ≡ Some s → p s ≡ true
first_passes p [] s is = absurd cc
first_passes p (x ∷ xs) s is = elim (cases_Bool (p x)) [
  | inl e ↦
      let first : head (cond (p x) (x ∷ filter p xs) (filter p xs)) ≡ Some s = is in
      let same : Some x ≡ Some s = rw e at first in
      let it : x ≡ s = cc in
      rw (← it) e
  | inr e ↦
      let first : head (cond (p x) (x ∷ filter p xs) (filter p xs)) ≡ Some s = is in
      first_passes p xs s (rw e at first)
]

pub any_at : {X : Type 0} (p : X → Bool) (d : X) (xs : List X) → list_any p xs ≡ true → (i : ℕ) × (i < length xs) × (p (get_or xs i d) ≡ true)
any_at p d [] is = absurd cc
any_at p d (x ∷ xs) is = elim (cases_Bool (p x)) [
  | inl e ↦ (0, omega arith, e)
  | inr e ↦
      let rest : (p x || list_any p xs) ≡ true = is in
      let (i, within, passes) = any_at p d xs (rw e at rest) in
      (suc i, omega (arith, within), passes)
]

pub some_position : {X : Type 0} (p : X → Bool) (d : X) (xs : List X) → list_any p xs ≡ true → (index : ℕ) × (position p xs ≡ Some index)
some_position p d xs any =
    let (i, within, passes) = any_at p d xs any in
    let before : position_or_len p xs ≤ i = elim (cases_lt i (position_or_len p xs)) [
      | inl past ↦ absurd (both_ways (p (get_or xs i d)) (fails_before_first p xs i d past) passes)
      | inr fine ↦ fine
    ] in
    let there : nat_lt (position_or_len p xs) (length xs) ≡ true = lt-ltb _ _ (omega (arith, before, within)) in
    (position_or_len p xs, rw there refl)
