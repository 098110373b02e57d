use Rattle.std.proofs.Common.{◌≡◌, ◌<◌, ◌≤◌, ◌+◌, ◌*◌, ◌/◌, ◌%◌, ℕ, zero, suc, true, false, List, [], ◌∷◌, length, take, drop, get_or, slice_index, Some, None, Result, Ok, Err, refl, sym, ap, ◌∙◌, arith}
use Rattle.std.proofs.lemmas.List.{get_or-drop, length-drop}
use Rattle.std.proofs.lemmas.List.Elements.{All-get_or}
use Rattle.std.proofs.lemmas.List.Sums.{list_all-from_AllPass}
use Rattle.std.specs.Int.{from_le_bytes, w16}
use Rattle.std.specs.List.{AllPass, list_all}
use Rattle.std.specs.Result.{result_ok}
use Rattle.std.specs.Simd.{first_chunks}
use Rattle.hex.proofs.HexLemmas.{decode_of-ok}
use Rattle.hex.specs.declared.error.FromHexError.{FromHexError}
use Rattle.hex.specs.Hex.{decode_of, hex_digit_value, is_hex_digit, pair_value}

-- two digits
pub pair_read : (a b i h l : ℕ) → hex_digit_value a ≡ Some h → hex_digit_value b ≡ Some l → pair_value a b i ≡ Ok (h * 16 + l)
pair_read a b i h l high low = grind arith

-- the first two items
first_two : (xs : List ℕ) → 1 < length xs → take 2 xs ≡ slice_index xs 0 ∷ slice_index xs 1 ∷ []
first_two xs long = grind arith

-- the pair at a place
pair_at : (n : ℕ) (xs : List ℕ) (i : ℕ) (d : List ℕ) → i < n → 2 * n ≤ length xs
    → get_or (first_chunks 2 n xs) i d ≡ slice_index xs (2 * i) ∷ slice_index xs (2 * i + 1) ∷ []
pair_at zero xs i d below room = absurd (omega (arith, below))
pair_at (suc n) xs zero d below room = first_two xs (omega (arith, room))
pair_at (suc n) xs (suc i) d below room =
    let left = length-drop 2 xs in
    let first : 2 + 2 * i ≡ 2 * suc i = omega arith in
    let second : 2 + (2 * i + 1) ≡ 2 * suc i + 1 = omega arith in
    pair_at n (drop 2 xs) i d (omega (arith, below)) (omega (arith, left, room))
    ∙ ap (λ (a : ℕ). a ∷ slice_index (drop 2 xs) (2 * i + 1) ∷ []) (get_or-drop 2 xs (2 * i) 0 ∙ ap (slice_index xs) first)
    ∙ ap (λ (b : ℕ). slice_index xs (2 * suc i) ∷ b ∷ []) (get_or-drop 2 xs (2 * i + 1) 0 ∙ ap (slice_index xs) second)

-- a number's low and high byte
pub record HasBytes (number low high : ℕ) : Type 0 where
  pub low_byte : number % 256 ≡ low
  pub high_byte : number / 256 ≡ high

two_bytes : (a b : ℕ) → a < 256 → b < 256 → HasBytes (from_le_bytes w16 (a ∷ b ∷ [])) a b
two_bytes a b small_a small_b = record { low_byte = omega (arith, small_a, small_b); high_byte = omega (arith, small_a, small_b) }

-- the number of two digits that stand at a place
pub pair_bytes : (s : List ℕ) (n i number : ℕ) (pairs : List (List ℕ)) (d : List ℕ) → ((k : ℕ) → get_or s k 0 < 256)
    → i < n → 2 * n ≤ length s → pairs ≡ first_chunks 2 n s → number ≡ from_le_bytes w16 (get_or pairs i d)
    → HasBytes number (slice_index s (2 * i)) (slice_index s (2 * i + 1))
pair_bytes s n i number pairs d small below room chunks is = grind (arith, slice_index, pair_at, two_bytes)

-- a byte of digits alone is a digit
pub digit_at : (s : List ℕ) (k digit : ℕ) → AllPass is_hex_digit s → k < length s → digit ≡ slice_index s k → is_hex_digit digit ≡ true
digit_at s k digit digits below is = ap is_hex_digit is ∙ All-get_or (λ c. is_hex_digit c ≡ true) s k 0 below digits

-- what reads is digits alone
read_digits : (s : List ℕ) (r : Result (List ℕ) FromHexError) → decode_of s ≡ r → list_all is_hex_digit s ≡ false → result_ok r ≡ None
read_digits s (Ok bytes) is other = cc (sym other ∙ list_all-from_AllPass is_hex_digit s (decode_of-ok s bytes is).1)
read_digits s (Err fault) is other = refl

-- so other text names no bytes
pub no_bytes : (s : List ℕ) → list_all is_hex_digit s ≡ false → result_ok (decode_of s) ≡ None
no_bytes s other = read_digits s (decode_of s) refl other
