use Rattle.std.proofs.Common.{◌≡◌, ℕ, ◌+◌, ◌/◌, ◌%◌, ◌^◌, ◌<◌, ◌≤◌, List, [], ◌∷◌, ◌++◌, length, get_or, drop, sym, ap, ◌∙◌, arith, append_assoc}
use Rattle.std.proofs.NetLemmas.Arrays.{eight_items}
use Rattle.std.proofs.lemmas.Fmt.{decimal_step, decimal_nonempty, decimal_digit}
use Rattle.std.proofs.lemmas.List.{length-append, drop-set}
use Rattle.std.specs.Net.Addr.{octets_of}
use Rattle.std.specs.Prelude.{decimal, slice_set}

-- a number of two digits or more has those of its tenth, and one more
pub shorter : (n : ℕ) → 10 ≤ n → n < 2 ^ 64 → length (decimal n) ≡ length (decimal (n / 10)) + 1
shorter n much fits = ap length (decimal_step n much fits) ∙ length-append (decimal (n / 10)) ((48 + n % 10) ∷ [])

pub two_digits : (n : ℕ) → 10 ≤ n → n < 2 ^ 64 → 2 ≤ length (decimal n)
two_digits n much fits =
    let tenth : n / 10 < 2 ^ 64 = omega (arith, fits) in
    omega (arith, shorter n much fits, decimal_nonempty (n / 10) tenth)

-- the last digit is written, and the others are left
pub one_less : (text digits : List ℕ) (n first digit : ℕ) → 10 ≤ n → n < 2 ^ 64 → first < length digits → digit ≡ 48 + n % 10
    → text ≡ decimal n ++ drop (first + 1) digits → text ≡ decimal (n / 10) ++ drop first (slice_set digits first digit)
one_less text digits n first digit much fits there e known =
    known ∙ ap (λ l. l ++ drop (first + 1) digits) (decimal_step n much fits)
    ∙ append_assoc (decimal (n / 10)) ((48 + n % 10) ∷ []) (drop (first + 1) digits)
    ∙ ap (λ l. decimal (n / 10) ++ l) (ap (λ d. d ∷ drop (first + 1) digits) (sym e) ∙ sym (drop-set digits first digit there))

-- the first digit is written
pub all_there : (text digits : List ℕ) (n first digit : ℕ) → n < 10 → first < length digits → digit ≡ 48 + n
    → text ≡ decimal n ++ drop (first + 1) digits → drop first (slice_set digits first digit) ≡ text
all_there text digits n first digit few there e known =
    drop-set digits first digit there ∙ ap (λ d. d ∷ drop (first + 1) digits) e
    ∙ sym (known ∙ ap (λ l. l ++ drop (first + 1) digits) (decimal_digit n few))

-- the octets of the last two groups of eight
pub last_octets : (groups : List ℕ) → length groups ≡ 8
    → octets_of (drop 6 groups) ≡ get_or groups 6 0 / 256 ∷ get_or groups 6 0 % 256 ∷ get_or groups 7 0 / 256 ∷ get_or groups 7 0 % 256 ∷ []
last_octets groups eight = ap (λ l. octets_of (drop 6 l)) (eight_items groups eight)
