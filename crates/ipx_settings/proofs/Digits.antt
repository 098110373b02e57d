use Rattle.std.proofs.Common.{◌≡◌, ℕ, ◌+◌, ◌*◌, ◌<◌, ◌≤◌, nat_le, ◌&&◌, Bool, true, false, List, length, get_or, take, drop, refl, sym, subst, ◌∙◌, arith, Some, None, if◌then◌else◌}
use Rattle.std.proofs.lemmas.List.{take-append-drop}
use Rattle.std.proofs.lemmas.List.Folds.{list_all-append, list_all_more}
use Rattle.std.proofs.lemmas.Int.Digits.{digits_value_more}
use Rattle.std.proofs.lemmas.Nat.{mul-le}
use Rattle.std.proofs.lemmas.Str.Parse.{digits_value-take-le}
use Rattle.std.specs.Char.{digit_value}
use Rattle.std.specs.List.{list_all}
use Rattle.std.specs.Str.Parse.{digits_value}
use Rattle.ipx_settings.specs.Numbers.{is_digit_to}

-- what fails in front fails
pub fails_whole : {X : Type 0} (p : X → Bool) (xs : List X) (k : ℕ) → list_all p (take k xs) ≡ false → list_all p xs ≡ false
fails_whole p xs k e =
    subst (λ l. list_all p l ≡ false) (take-append-drop k xs) (list_all-append p (take k xs) (drop k xs) ∙ rw e refl)

-- a digit more
pub one_more : (base : ℕ) (word : List ℕ) (i : ℕ) → i < length word → list_all (is_digit_to base) (take i word) ≡ true
    → list_all (is_digit_to base) (take (i + 1) word) ≡ is_digit_to base (get_or word i 0)
one_more base word i below fine = list_all_more (is_digit_to base) word i 0 below ∙ rw fine refl

-- small factors
pub small : (value base : ℕ) → value < 4294967296 → base ≤ 16 → value * base < 68719476736
small value base low few = omega (arith, mul-le value base 4294967295 16 (omega (arith, low)) few)

-- what is too much in front is too much
pub much_whole : (base : ℕ) (word : List ℕ) (k most : ℕ) → 1 ≤ base → most < digits_value base (take k word) → nat_le (digits_value base word) most ≡ false
much_whole base word k most some more =
    let least = digits_value-take-le base word k some in
    let above : most < digits_value base word = omega (arith, least, more) in
    grind (arith, above)

-- the number with a digit more
pub next_value : (base : ℕ) (word : List ℕ) (i value d : ℕ) → i < length word → value ≡ digits_value base (take i word)
    → d ≡ digit_value (get_or word i 0) → value * base + d ≡ digits_value base (take (i + 1) word)
next_value base word i value d below v e = rw (v, e) (sym (digits_value_more base word i below))

pub too_much : {X : Type 0} (x : X) (a b : Bool) → b ≡ false → None ≡ (if a && b then Some x else None)
too_much x a b e = grind arith

pub is_low : (base byte : ℕ) → digit_value byte < base → is_digit_to base byte ≡ true
is_low base byte low = grind arith
