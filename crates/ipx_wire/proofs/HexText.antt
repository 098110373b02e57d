use Rattle.std.proofs.Common.{◌≡◌, ℕ, ◌+◌, ◌<◌, nat_lt, arith, subst, ◌/◌, ◌%◌, length, slice_index, List, [], ◌∷◌, ◌++◌, refl, ap, get_or, take, ◌∙◌, sym}
use Rattle.std.proofs.lemmas.List.{take_more}
use Rattle.std.proofs.lemmas.List.Sums.{AllPass-from_list_all}
use Rattle.std.proofs.lemmas.Bool.{ltb-true}
use Rattle.std.proofs.lemmas.Str.Ascii.{IsAscii-from_reads}
use Rattle.std.specs.Str.{IsAscii}
use Rattle.hex.proofs.HexLemmas.{IsAscii-encode_with}
use Rattle.hex.specs.Hex.{encode_with, encode_upper, upper_digits}

-- the digits of one list after another
pub encode_with-append : (t xs ys : List ℕ) → encode_with t (xs ++ ys) ≡ encode_with t xs ++ encode_with t ys
unfolding encode_with
encode_with-append t [] ys = refl
encode_with-append t (b ∷ xs) ys =
    ap (λ rest. slice_index t (b / 16) ∷ slice_index t (b % 16) ∷ rest) (encode_with-append t xs ys)

-- the digits of one byte more
pub encode_upper-more : (xs : List ℕ) (i : ℕ) → i < length xs
    → encode_upper (take i xs) ++ encode_upper (get_or xs i 0 ∷ []) ≡ encode_upper (take (i + 1) xs)
encode_upper-more xs i below =
    sym (encode_with-append upper_digits (take i xs) (get_or xs i 0 ∷ []))
    ∙ ap encode_upper (sym (take_more xs i 0 below))

-- the two digits of one byte
pub encode_upper-one : (b : ℕ) → encode_upper (b ∷ []) ≡ slice_index upper_digits (b / 16) ∷ slice_index upper_digits (b % 16) ∷ []
unfolding encode_with
encode_upper-one b = refl

-- a byte's two digits, as they are written
pub encode_upper-digits : (b x y : ℕ) → x ≡ slice_index upper_digits (b / 16) → y ≡ slice_index upper_digits (b % 16) → x ∷ y ∷ [] ≡ encode_upper (b ∷ [])
encode_upper-digits b x y high low = rw (encode_upper-one b, high, low) refl

-- the digits are ASCII
IsAscii-upper_digits : IsAscii upper_digits
IsAscii-upper_digits =
    IsAscii-from_reads upper_digits 16 (omega arith)
    (λ k below. ltb-true (get_or upper_digits k 0) 128 (AllPass-from_list_all (λ d. nat_lt d 128) upper_digits refl k 0 below))

-- so is what they spell
pub IsAscii-encode_upper : (xs : List ℕ) → IsAscii (encode_upper xs)
IsAscii-encode_upper xs = IsAscii-encode_with upper_digits xs IsAscii-upper_digits

-- what is such digits is ASCII
pub ascii_digits : (digits bytes : List ℕ) → digits ≡ encode_upper bytes → IsAscii digits
ascii_digits digits bytes e = subst IsAscii (sym e) (IsAscii-encode_upper bytes)

-- no byte, no digit
pub encode_upper-none : encode_upper [] ≡ []
unfolding encode_with
encode_upper-none = refl
