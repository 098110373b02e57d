use Rattle.std.proofs.Common.{◌≡◌, ℕ, zero, suc, ◌+◌, ◌*◌, ◌-◌, ◌<◌, ◌≤◌, nat_le, ◌&&◌, Bool, true, List, [], ◌∷◌, length, get_or, take, ap, ◌∙◌, arith}
use Rattle.std.proofs.Math.Nat.{pow-le-pow_right}
use Rattle.std.proofs.lemmas.Bool.{leb-true}
use Rattle.std.proofs.lemmas.Bool.Decides.{nat_tests}
use Rattle.std.proofs.lemmas.Int.Digits.{digits_value-lt, digits_value_more}
use Rattle.std.proofs.lemmas.List.{length-take-le}
use Rattle.std.proofs.lemmas.Str.{digit_value_digit}
use Rattle.std.proofs.lemmas.Str.Parse.{digit_at}
use Rattle.std.specs.Char.{is_ascii_digit}
use Rattle.std.specs.Int.{IsInRange}
use Rattle.std.specs.List.{list_all}
use Rattle.std.specs.Str.Parse.{digits_value, AllDigits}
use Rattle.ipx_cmd.specs.Words.{is_numeral}

-- the parts of a test that holds
both : (a b : Bool) → (a && b) ≡ true → (a ≡ true) × (b ≡ true)
both a b e = grind arith

-- the code of a digit
digit_is : (d : ℕ) → is_ascii_digit d ≡ true → IsInRange 48 57 d
digit_is d e = grind (arith, nat_tests)

-- a word of digits, in the words of the standard library
all_digits : (ds : List ℕ) → list_all is_ascii_digit ds ≡ true → AllDigits 10 ds
all_digits [] e = tt
all_digits (d ∷ ds) e =
    let parts = both (is_ascii_digit d) (list_all is_ascii_digit ds) e in
    let range = digit_is d parts.0 in
    let value = digit_value_digit d range in
    (omega (arith, range, value), all_digits ds parts.1)

-- the front of a word of digits
taken : (ds : List ℕ) (i : ℕ) → AllDigits 10 ds → AllDigits 10 (take i ds)
taken ds zero h = tt
taken [] (suc i) h = tt
taken (d ∷ ds) (suc i) h = (h.0, taken ds i h.1)

-- what is known at a digit of a numeral
pub record AtDigit (word : List ℕ) (i : ℕ) : Type 0 where
  pub low : 48 ≤ get_or word i 0
  pub high : get_or word i 0 ≤ 57
  pub small : digits_value 10 (take i word) < 1000000
  pub next : digits_value 10 (take (i + 1) word) ≡ digits_value 10 (take i word) * 10 + (get_or word i 0 - 48)

pub at_digit : (word : List ℕ) (i : ℕ) → is_numeral word ≡ true → i < length word → AtDigit word i
at_digit word i numeral below =
    let parts = both (nat_le 1 (length word) && nat_le (length word) 7) (list_all is_ascii_digit word) numeral in
    let few = leb-true (length word) 7 (both (nat_le 1 (length word)) (nat_le (length word) 7) parts.0).1 in
    let digits = all_digits word parts.1 in
    let range = digit_at word i digits below in
    let value = digit_value_digit (get_or word i 0) range in
    let front = length-take-le i word (omega arith) in
    let less = digits_value-lt 10 (take i word) (taken word i digits) in
    let short : length (take i word) ≤ 6 = omega arith in
    let most = pow-le-pow_right {n = 10} (omega arith) short in
    record {
      low = omega (arith, range);
      high = omega (arith, range);
      small = omega (arith, less, most);
      next = digits_value_more 10 word i below ∙ ap (λ n. digits_value 10 (take i word) * 10 + n) (omega (arith, value));
    }
