use Rattle.std.proofs.Common.{◌≡◌, ◌≢◌, ℕ, ◌/◌, ◌%◌, ◌^◌, ◌<◌, ◌≤◌, true, false, List, [], ◌∷◌, ◌++◌, length, get_or, refl, sym, ap, arith, inl, inr, Some, append_assoc, ne_eqb, lt-ltb, le-leb}
use Rattle.std.proofs.NetLemmas.Arrays.{four_items}
use Rattle.std.proofs.lemmas.Bool.{cases_lt, lt-leb}
use Rattle.std.proofs.lemmas.Bool.Decides.{nat_tests}
use Rattle.std.proofs.lemmas.Fmt.{decimal_is_IsNumeral, first_decimal, decimal_digit, decimal_nonempty}
use Rattle.std.proofs.lemmas.List.{length-append}
use Rattle.std.specs.Char.{digit_value, digit_char}
use Rattle.std.specs.List.{AllByRecursion, list_all}
use Rattle.std.specs.Net.Text.{ipv4_text, hex}
use Rattle.std.specs.Prelude.{decimal}
use Rattle.std.specs.Str.Parse.{AllDigits, IsNumeral, digits_value}
use Rattle.ipx_settings.specs.Cutting.{dot}
use Rattle.ipx_settings.specs.Hosts.{is_padded, octet_of, four_of}
use Rattle.ipx_settings.specs.Numbers.{is_digit_to, number_to, number_of, hexadecimal_of}
use Rattle.ipx_settings.specs.Right.{AreNumbers}
use Rattle.ipx_settings.proofs.Without.{Without, each-append, each-digits, other_byte, cut_front}

all_digits : (base : ℕ) (ds : List ℕ) → AllDigits base ds → list_all (is_digit_to base) ds ≡ true
all_digits base [] all = refl
all_digits base (c ∷ cs) all = rw (lt-ltb (digit_value c) base all.0, all_digits base cs all.1) refl

-- digits are read as the number that they write
pub number_is : (base least most n : ℕ) (ds : List ℕ) → IsNumeral base ds → digits_value base ds ≡ n → least ≤ n → n ≤ most → number_to base least most ds ≡ Some n
number_is base least most n ds is value low high =
    let some = ne_eqb (length ds) 0 (λ e. omega (arith, is.0, e)) in
    rw (some, all_digits base ds is.1, value, le-leb least n low, le-leb n most high) refl

pub number_again : (least most n : ℕ) → n < 2 ^ 64 → least ≤ n → n ≤ most → number_of least most (decimal n) ≡ Some n
number_again least most n fits low high =
    let is = decimal_is_IsNumeral n fits in
    number_is 10 least most n (decimal n) is.0 is.1 low high

low_digit : (c : ℕ) → digit_value c < 10 → digit_value c < 16
low_digit c low = omega (arith, low)

-- what holds of each digit holds of decimal ones
pub each-decimal : (P : ℕ → Type 0) (n : ℕ) → n < 2 ^ 64 → ((c : ℕ) → digit_value c < 16 → P c) → AllByRecursion P (decimal n)
each-decimal P n fits each = each-digits P 10 (decimal n) (λ c low. each c (low_digit c low)) (decimal_is_IsNumeral n fits).0.1

pub without-decimal : (byte n : ℕ) → n < 2 ^ 64 → digit_value byte ≡ 36 → Without byte (decimal n)
without-decimal byte n fits other = each-decimal (λ c. c ≢ byte) n fits (λ c. other_byte byte c other)

isnt_padded : (n : ℕ) → n < 256 → is_padded (decimal n) ≡ false
isnt_padded n low =
    elim (cases_lt 0 n) [
      | inl some ↦ (let first = first_decimal n some (omega (arith, low)) in grind arith)
      | inr none ↦ (let zero : n ≡ 0 = omega (arith, none) in rw (zero, decimal_digit 0 (omega arith)) refl)
    ]

pub octet_again : (n : ℕ) → n < 2 ^ 8 → octet_of (decimal n) ≡ Some n
octet_again n low = rw (isnt_padded n (omega (arith, low))) (number_again 0 255 n (omega (arith, low)) (omega arith) (omega (arith, low)))

-- the text of four numbers, from its front on
pub dotted : (four : List ℕ)
    → ipv4_text four ≡ decimal (get_or four 0 0) ++ 46 ∷ (decimal (get_or four 1 0) ++ 46 ∷ (decimal (get_or four 2 0) ++ 46 ∷ decimal (get_or four 3 0)))
dotted four = simp append_assoc

small : (four : List ℕ) → AreNumbers 4 8 four → (k : ℕ) → get_or four k 0 < 2 ^ 64
small four are k = omega (arith, are.1 k)

pub four_again : (four : List ℕ) → AreNumbers 4 8 four → four_of (ipv4_text four) ≡ Some four
four_again four are =
    let dots : (k : ℕ) → Without dot (decimal (get_or four k 0)) = λ k. without-decimal dot (get_or four k 0) (small four are k) refl in
    rw (
      dotted four,
      cut_front dot (decimal (get_or four 0 0)) _ (dots 0),
      cut_front dot (decimal (get_or four 1 0)) _ (dots 1),
      cut_front dot (decimal (get_or four 2 0)) _ (dots 2),
      octet_again _ (are.1 0),
      octet_again _ (are.1 1),
      octet_again _ (are.1 2),
      octet_again _ (are.1 3),
    )
    (ap Some (sym (four_items four are.0)))

pub each-four : (P : ℕ → Type 0) (four : List ℕ) → AreNumbers 4 8 four → ((c : ℕ) → digit_value c < 16 → P c) → P 46 → AllByRecursion P (ipv4_text four)
each-four P four are each dot =
    let all : (k : ℕ) → AllByRecursion P (decimal (get_or four k 0)) = λ k. each-decimal P (get_or four k 0) (small four are k) each in
    rw (dotted four)
    (each-append P _ _ (all 0) (dot, each-append P _ _ (all 1) (dot, each-append P _ _ (all 2) (dot, all 3))))

pub length-four : (four : List ℕ) → AreNumbers 4 8 four → 7 ≤ length (ipv4_text four)
length-four four are =
    let some : (k : ℕ) → 0 < length (decimal (get_or four k 0)) = λ k. decimal_nonempty (get_or four k 0) (small four are k) in
    let third = length-append (decimal (get_or four 2 0)) (46 ∷ decimal (get_or four 3 0)) in
    let second = length-append (decimal (get_or four 1 0)) (46 ∷ (decimal (get_or four 2 0) ++ 46 ∷ decimal (get_or four 3 0))) in
    let first = length-append (decimal (get_or four 0 0)) (46 ∷ (decimal (get_or four 1 0) ++ 46 ∷ (decimal (get_or four 2 0) ++ 46 ∷ decimal (get_or four 3 0)))) in
    rw (dotted four) (omega (arith, some 0, some 1, some 2, some 3, first, second, third))

-- ---- groups of an address of IPv6

digit_again : (d : ℕ) → d < 16 → digit_value (digit_char d) ≡ d
digit_again d low = grind (arith, nat_tests)

-- the digits of a group, and the number that they write
pub group_digits : (n : ℕ) → n < 2 ^ 16 → IsNumeral 16 (hex n) × (digits_value 16 (hex n) ≡ n) × (length (hex n) ≤ 4)
unfolding hex
group_digits n low =
    let a = digit_again (n / 0x1000) (omega (arith, low)) in
    let b = digit_again (n / 0x100 % 16) (omega arith) in
    let c = digit_again (n / 0x10 % 16) (omega arith) in
    let d = digit_again (n % 16) (omega arith) in
    elim (cases_lt n 0x1000) [
      | inr four ↦ rw (le-leb _ n four) (omega arith)
      | inl three ↦ elim (cases_lt n 0x100) [
        | inr more ↦ rw (lt-leb _ n three, le-leb _ n more) (omega arith)
        | inl two ↦ elim (cases_lt n 0x10) [
          | inr more ↦ rw (lt-leb _ n three, lt-leb _ n two, le-leb _ n more) (omega arith)
          | inl one ↦ rw (lt-leb _ n three, lt-leb _ n two, lt-leb _ n one) (omega arith)
        ]
      ]
    ]

pub group_again : (n : ℕ) → n < 2 ^ 16 → hexadecimal_of 4 0 65535 (hex n) ≡ Some n
group_again n low =
    let is = group_digits n low in
    rw (le-leb (length (hex n)) 4 is.2) (number_is 16 0 65535 n (hex n) is.0 is.1 (omega arith) (omega (arith, low)))

pub each-group : (P : ℕ → Type 0) (n : ℕ) → n < 2 ^ 16 → ((c : ℕ) → digit_value c < 16 → P c) → AllByRecursion P (hex n)
each-group P n low each = each-digits P 16 (hex n) each (group_digits n low).0.1

pub without-group : (byte n : ℕ) → n < 2 ^ 16 → digit_value byte ≡ 36 → Without byte (hex n)
without-group byte n low other = each-group (λ c. c ≢ byte) n low (λ c. other_byte byte c other)
