-- The table of digits.
use Rattle.std.proofs.Common.{◌≡◌, ℕ, zero, suc, ◌+◌, ◌-◌, ◌*◌, ◌/◌, ◌%◌, ◌<◌, inl, inr, Bool, true, ◌&&◌, eqb, T, get_or, slice_index, [], ◌∷◌, arith, eq-zero-or-pos, eqb→eq}
use lib.Ieee.Fits.{and_l, and_r}
use Rattle.hex.specs.Hex.{encode_upper, upper_digits}
use Rattle.ipx_wire.proofs.HexText.{encode_upper-digits}
use Rattle.ipx_cmd.specs.declared.texts.put.TheConstants.{PAIRS}

abbrev are_pairs : ℕ → Bool
are_pairs zero = true
are_pairs (suc b) =
    (eqb (get_or PAIRS (b * 2) 0) (slice_index upper_digits (b / 16)) && eqb (get_or PAIRS (b * 2 + 1) 0) (slice_index upper_digits (b % 16))) && are_pairs b

below : (n b : ℕ) → T (are_pairs n) → b < n
    → (get_or PAIRS (b * 2) 0 ≡ slice_index upper_digits (b / 16)) × (get_or PAIRS (b * 2 + 1) 0 ≡ slice_index upper_digits (b % 16))
below zero b t h = absurd (omega arith)
below (suc n) b t h =
    elim (eq-zero-or-pos (n - b)) [
      | inl z ↦ let e : b ≡ n = omega arith in let a = and_l _ (are_pairs n) t in rw e (eqb→eq _ _ (and_l _ _ a), eqb→eq _ _ (and_r _ _ a))
      | inr g ↦ below n b (and_r _ (are_pairs n) t) (omega arith)
    ]

-- the pair of a byte
pub pair_of : (b : ℕ) → b < 256 → get_or PAIRS (b * 2) 0 ∷ get_or PAIRS (b * 2 + 1) 0 ∷ [] ≡ encode_upper (b ∷ [])
pair_of b small =
    let both = below 256 b tt small in encode_upper-digits b _ _ both.0 both.1
