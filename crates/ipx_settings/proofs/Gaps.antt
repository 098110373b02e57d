use Rattle.std.proofs.Common.{◌≡◌, ℕ, suc, ◌+◌, ◌<◌, ◌≤◌, ◌==◌, ◌&&◌, Bool, true, false, List, [], ◌∷◌, length, get_or, drop, refl, ap, ◌∙◌, arith, Option, Some, None, drop-cons, length-drop}
use Rattle.std.specs.Option.{option_map}
use Rattle.ipx_settings.specs.Cutting.{colon}
use Rattle.ipx_settings.specs.Hosts.{gap_of}

-- a place further on
abbrev pub shifted : ℕ → Option ℕ → Option ℕ
shifted n place = option_map (λ k. k + n) place

-- two colons, one behind the other
abbrev pub is_gap : List ℕ → ℕ → Bool
is_gap text k = (get_or text k 0 == colon) && (get_or text (k + 1) 0 == colon)

pub here : (place : Option ℕ) → place ≡ shifted 0 place
here None = refl
here (Some k) = ap Some (omega arith)

shifted_more : (n : ℕ) (place : Option ℕ) → shifted n (option_map (λ k. k + 1) place) ≡ shifted (n + 1) place
shifted_more n None = refl
shifted_more n (Some k) = ap Some (omega arith)

two_first : (text : List ℕ) (j : ℕ) → j + 1 < length text → drop j text ≡ get_or text j 0 ∷ get_or text (j + 1) 0 ∷ drop (j + 2) text
two_first text j below =
    let one = drop-cons text j 0 (omega (arith, below)) in
    let two = drop-cons text (suc j) 0 (omega (arith, below)) in
    let e : j + 1 ≡ suc j = omega arith in
    let f : j + 2 ≡ suc (suc j) = omega arith in
    rw (e, f) (one ∙ ap (λ l. get_or text j 0 ∷ l) two)

one_first : (text : List ℕ) (j : ℕ) → j + 1 < length text → drop (j + 1) text ≡ get_or text (j + 1) 0 ∷ drop (j + 2) text
one_first text j below =
    let two = drop-cons text (suc j) 0 (omega (arith, below)) in
    let e : j + 1 ≡ suc j = omega arith in
    let f : j + 2 ≡ suc (suc j) = omega arith in
    rw (e, f) two

pub found : (text : List ℕ) (j : ℕ) → j + 1 < length text → is_gap text j ≡ true → shifted j (gap_of (drop j text)) ≡ Some j
found text j below both = rw (two_first text j below, both) (ap Some (omega arith))

pub not_here : (text : List ℕ) (j : ℕ) → j + 1 < length text → is_gap text j ≡ false
    → shifted j (gap_of (drop j text)) ≡ shifted (j + 1) (gap_of (drop (j + 1) text))
not_here text j below other = rw (two_first text j below, one_first text j below, other) (shifted_more j _)

short_has_none : (text : List ℕ) → length text ≤ 1 → gap_of text ≡ None
short_has_none [] few = refl
short_has_none (a ∷ []) few = refl
short_has_none (a ∷ b ∷ more) few = absurd (omega (arith, few))

pub none_left : (text : List ℕ) (j : ℕ) → length text ≤ j + 1 → shifted j (gap_of (drop j text)) ≡ None
none_left text j few = ap (shifted j) (short_has_none (drop j text) (omega (arith, few, length-drop j text)))

pub both_colons : (a b : ℕ) → a ≡ 58 → b ≡ 58 → ((a == colon) && (b == colon)) ≡ true
both_colons a b e f = rw (e, f) refl

pub first_other : (a b : ℕ) → (a ≡ 58 → ⊥) → ((a == colon) && (b == colon)) ≡ false
first_other a b other = grind arith

pub second_other : (a b : ℕ) → (b ≡ 58 → ⊥) → ((a == colon) && (b == colon)) ≡ false
second_other a b other = grind arith
