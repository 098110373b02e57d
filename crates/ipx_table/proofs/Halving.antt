-- Records that are parted: those that stay stand in front of those that end.
use Rattle.std.proofs.Common.{◌≡◌, refl, sym, ap, ap₂, ◌∙◌, ℕ, zero, suc, ◌+◌, ◌-◌, ◌≤◌, min, Bool, true, false, not, ◌||◌, if◌then◌else◌, List, [], ◌∷◌, ◌++◌, length, take, drop, filter, slice_get, None, inl, inr, arith, true≢false, append-nil, append_assoc, length-append, length-take, length-drop, take_at, drop_at, take_all, drop-drop, take-take}
use Rattle.std.specs.List.{list_any, zip}
use Rattle.std.proofs.lemmas.Bool.{cases_Bool}
use Rattle.std.proofs.lemmas.List.{drop-take}
use Rattle.std.proofs.lemmas.List.Elements.{filter-append}
use Rattle.ipx_table.proofs.Pairs.{take-pairs}

-- ---- what holds of one of the pairs

module _ {A B : Type 0} where
  pub any-first : (test : A → Bool) (xs : List A) (ys : List B) → length ys ≡ length xs → list_any test xs ≡ list_any (λ p. test p.0) (zip xs ys)
  any-first test [] ys e = refl
  any-first test (x ∷ xs) [] e = absurd (omega (arith, e))
  any-first test (x ∷ xs) (y ∷ ys) e = ap (λ (b : Bool). test x || b) (any-first test xs ys (omega (arith, e)))

  pub any-second : (test : B → Bool) (xs : List A) (ys : List B) → length ys ≡ length xs → list_any test ys ≡ list_any (λ p. test p.1) (zip xs ys)
  any-second test [] [] e = refl
  any-second test [] (y ∷ ys) e = absurd (omega (arith, e))
  any-second test (x ∷ xs) [] e = absurd (omega (arith, e))
  any-second test (x ∷ xs) (y ∷ ys) e = ap (λ (b : Bool). test y || b) (any-second test xs ys (omega (arith, e)))

  pub append-pairs : (xs more : List A) (ys others : List B) → length ys ≡ length xs → zip (xs ++ more) (ys ++ others) ≡ zip xs ys ++ zip more others
  append-pairs [] more [] others e = refl
  append-pairs [] more (y ∷ ys) others e = absurd (omega (arith, e))
  append-pairs (x ∷ xs) more [] others e = absurd (omega (arith, e))
  append-pairs (x ∷ xs) more (y ∷ ys) others e = ap (λ rest. (x, y) ∷ rest) (append-pairs xs more ys others (omega (arith, e)))

  pub drop-pairs : (xs : List A) (ys : List B) (k : ℕ) → length ys ≡ length xs → zip (drop k xs) (drop k ys) ≡ drop k (zip xs ys)
  drop-pairs xs ys zero e = refl
  drop-pairs [] [] (suc k) e = refl
  drop-pairs [] (y ∷ ys) (suc k) e = absurd (omega (arith, e))
  drop-pairs (x ∷ xs) [] (suc k) e = absurd (omega (arith, e))
  drop-pairs (x ∷ xs) (y ∷ ys) (suc k) e = drop-pairs xs ys k (omega (arith, e))

-- ---- where all stay, or all end

module _ {X : Type 0} (goes : X → Bool) where
  pub none_goes : (xs : List X) → list_any goes xs ≡ false → (filter goes xs ≡ []) × (filter (λ x. not (goes x)) xs ≡ xs)
  none_goes [] e = (refl, refl)
  none_goes (x ∷ xs) e =
      elim (cases_Bool (goes x)) [
        | inl now ↦ let no : true ≡ false = rw now at e in absurd (true≢false no)
        | inr later ↦ let rest = none_goes xs (rw later at e) in rw later (rest.0, ap (λ zs. x ∷ zs) rest.1)
      ]

  pub none_stays : (xs : List X) → list_any (λ x. not (goes x)) xs ≡ false → (filter goes xs ≡ xs) × (filter (λ x. not (goes x)) xs ≡ [])
  none_stays [] e = (refl, refl)
  none_stays (x ∷ xs) e =
      elim (cases_Bool (goes x)) [
        | inl now ↦ let rest = none_stays xs (rw now at e) in rw now (ap (λ zs. x ∷ zs) rest.0, rest.1)
        | inr later ↦ let no : true ≡ false = rw later at e in absurd (true≢false no)
      ]

  -- where one ends and one stays, there are two
  pub two_at_least : (xs : List X) → list_any goes xs ≡ true → list_any (λ x. not (goes x)) xs ≡ true → 2 ≤ length xs
  two_at_least [] ends stays = absurd (true≢false (sym ends))
  two_at_least (x ∷ []) ends stays = grind arith
  two_at_least (x ∷ y ∷ xs) ends stays = omega arith

  -- what stays, and what ends
  abbrev pub halves : List X → List X
  halves xs = filter (λ x. not (goes x)) xs ++ filter goes xs

  pub all_stay : (xs : List X) → list_any goes xs ≡ false → xs ≡ halves xs
  all_stay xs e = let none = none_goes xs e in sym (ap₂ (λ (ys zs : List X). ys ++ zs) none.1 none.0 ∙ append-nil xs)

  pub all_end : (xs : List X) → list_any (λ x. not (goes x)) xs ≡ false → xs ≡ halves xs
  all_end xs e = let none = none_stays xs e in sym (ap₂ (λ (ys zs : List X). ys ++ zs) none.1 none.0)

  pub length-halves : (xs : List X) → length (halves xs) ≡ length xs
  length-halves [] = refl
  length-halves (x ∷ xs) = grind (arith, length-halves xs, length-append)

-- ---- turning what lies between

-- what stands before the middle and what stands behind it change places, from one place to another
abbrev pub turned : {X : Type 0} → ℕ → ℕ → ℕ → List X → List X
turned from middle to xs = take from xs ++ drop middle (take to xs) ++ drop from (take middle xs) ++ drop to xs

pub turn-pairs : {A B : Type 0} (from middle to : ℕ) (xs : List A) (ys : List B) → length ys ≡ length xs
    → zip (turned from middle to xs) (turned from middle to ys) ≡ turned from middle to (zip xs ys)
turn-pairs {A} {B} from middle to xs ys e =
    let fronts : length (take from ys) ≡ length (take from xs) = length-take from ys ∙ ap (min from) e ∙ sym (length-take from xs) in
    let tos : length (take to ys) ≡ length (take to xs) = length-take to ys ∙ ap (min to) e ∙ sym (length-take to xs) in
    let middles : length (take middle ys) ≡ length (take middle xs) = length-take middle ys ∙ ap (min middle) e ∙ sym (length-take middle xs) in
    let behind : length (drop middle (take to ys)) ≡ length (drop middle (take to xs)) =
    length-drop middle (take to ys) ∙ ap (λ (n : ℕ). n - middle) tos ∙ sym (length-drop middle (take to xs)) in
    let before : length (drop from (take middle ys)) ≡ length (drop from (take middle xs)) =
    length-drop from (take middle ys) ∙ ap (λ (n : ℕ). n - from) middles ∙ sym (length-drop from (take middle xs)) in
    let two : length (take from ys ++ drop middle (take to ys)) ≡ length (take from xs ++ drop middle (take to xs)) =
    length-append (take from ys) (drop middle (take to ys)) ∙ ap₂ (λ (m n : ℕ). m + n) fronts behind ∙ sym (length-append (take from xs) (drop middle (take to xs))) in
    let three : length (take from ys ++ drop middle (take to ys) ++ drop from (take middle ys)) ≡ length (take from xs ++ drop middle (take to xs) ++ drop from (take middle xs)) =
    length-append (take from ys ++ drop middle (take to ys)) (drop from (take middle ys)) ∙ ap₂ (λ (m n : ℕ). m + n) two before
    ∙ sym (length-append (take from xs ++ drop middle (take to xs)) (drop from (take middle xs))) in
    append-pairs (take from xs ++ drop middle (take to xs) ++ drop from (take middle xs)) (drop to xs)
    (take from ys ++ drop middle (take to ys) ++ drop from (take middle ys)) (drop to ys) three
    ∙ ap₂ (λ (ps qs : List (A × B)). ps ++ qs)
    (append-pairs (take from xs ++ drop middle (take to xs)) (drop from (take middle xs)) (take from ys ++ drop middle (take to ys)) (drop from (take middle ys)) two
    ∙ ap₂ (λ (ps qs : List (A × B)). ps ++ qs)
    (append-pairs (take from xs) (drop middle (take to xs)) (take from ys) (drop middle (take to ys)) fronts
    ∙ ap₂ (λ (ps qs : List (A × B)). ps ++ qs) (take-pairs xs ys from) (drop-pairs (take to xs) (take to ys) middle tos ∙ ap (drop middle) (take-pairs xs ys to)))
    (drop-pairs (take middle xs) (take middle ys) from middles ∙ ap (drop from) (take-pairs xs ys middle)))
    (drop-pairs xs ys to e)

-- what a rotation from one place to another gives
pub turn_is : {X : Type 0} (xs part now : List X) (from middle to : ℕ) → from ≤ middle → middle ≤ to → part ≡ drop from (take to xs)
    → now ≡ drop (middle - from) part ++ take (middle - from) part → take from xs ++ (now ++ drop (to - from) (drop from xs)) ≡ turned from middle to xs
turn_is {X} xs part now from middle to before behind part_is now_is =
    let gap : from + (middle - from) ≡ middle = omega (arith, before) in
    let rest : from + (to - from) ≡ to = omega (arith, before, behind) in
    let second : drop (middle - from) (drop from (take to xs)) ≡ drop middle (take to xs) =
    drop-drop (middle - from) from (take to xs) ∙ ap (λ (n : ℕ). drop n (take to xs)) gap in
    let first : take (middle - from) (drop from (take to xs)) ≡ drop from (take middle xs) =
    sym (drop-take from (middle - from) (take to xs)) ∙ ap (λ (n : ℕ). drop from (take n (take to xs))) gap ∙ ap (drop from) (take-take middle to xs behind) in
    let last : drop (to - from) (drop from xs) ≡ drop to xs = drop-drop (to - from) from xs ∙ ap (λ (n : ℕ). drop n xs) rest in
    let piece : now ≡ drop middle (take to xs) ++ drop from (take middle xs) =
    now_is ∙ ap (λ (ys : List X). drop (middle - from) ys ++ take (middle - from) ys) part_is ∙ ap₂ (λ (ys zs : List X). ys ++ zs) second first in
    ap₂ (λ (ys zs : List X). take from xs ++ (ys ++ zs)) piece last
    ∙ sym (append_assoc (take from xs) (drop middle (take to xs) ++ drop from (take middle xs)) (drop to xs))
    ∙ ap (λ (ys : List X). ys ++ drop to xs) (sym (append_assoc (take from xs) (drop middle (take to xs)) (drop from (take middle xs))))

-- of four pieces the second and the third change places
pub turn-four : {X : Type 0} (a b c d : List X) (from middle to : ℕ) → length a ≡ from → length (a ++ b) ≡ middle → length (a ++ b ++ c) ≡ to
    → turned from middle to ((a ++ b) ++ (c ++ d)) ≡ (a ++ c) ++ (b ++ d)
turn-four {X} a b c d from middle to ea eb ec = grind (arith, append_assoc, take_at, drop_at)

-- two halves that are parted, turned so that the whole is
pub turn-parted : {X : Type 0} (goes : X → Bool) (xs ys : List X) (from middle to : ℕ) → length (filter (λ x. not (goes x)) xs) ≡ from → length xs ≡ middle
    → middle + length (filter (λ x. not (goes x)) ys) ≡ to
    → turned from middle to (halves goes xs ++ halves goes ys) ≡ halves goes (xs ++ ys)
turn-parted {X} goes xs ys from middle to ea eb ec = grind (arith, turn-four, length-halves, length-append, filter-append)

-- ---- the records of a table, and what ended behind them

pub length-take-same : {A B : Type 0} (live : ℕ) (xs : List A) (ys : List B) → length ys ≡ length xs → length (take live ys) ≡ length (take live xs)
length-take-same live xs ys e = length-take live ys ∙ ap (min live) e ∙ sym (length-take live xs)

module _ {X : Type 0} (goes : X → Bool) (xs ys : List X) (live : ℕ) (parts : ys ≡ halves goes xs) (stay : live ≡ length (filter (λ x. not (goes x)) xs)) where
  pub in_front : take live ys ≡ filter (λ x. not (goes x)) xs
  in_front = ap (take live) parts ∙ take_at (filter (λ x. not (goes x)) xs) (filter goes xs) live (sym stay)

  pub gone_behind : drop live ys ≡ filter goes xs
  gone_behind = ap (drop live) parts ∙ drop_at (filter (λ x. not (goes x)) xs) (filter goes xs) live (sym stay)

  pub stay_within : live ≤ length ys
  stay_within = grind (arith, length-append)

-- where the first ones are all, what is found among them is found
pub found-whole : {X : Type 0} (xs : List X) (live : ℕ) (held : Bool) (place : ℕ) → length xs ≤ live
    → (if held then slice_get xs place else None) ≡ (if held then slice_get (take live xs) place else None)
found-whole {X} xs live held place all = ap (λ (ys : List X). if held then slice_get ys place else None) (sym (take_all live xs all))
