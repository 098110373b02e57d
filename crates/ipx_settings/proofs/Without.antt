use Rattle.std.proofs.Common.{◌≡◌, ◌≢◌, ℕ, ◌<◌, List, [], ◌∷◌, ◌++◌, length, refl, ap, arith, Some, None, ne_eqb, eq-eqb, lt-ltb, le-ltb}
use Rattle.std.proofs.Math.Seq.{take-append_seam, drop-append-add}
use Rattle.std.proofs.lemmas.List.{length-append}
use Rattle.std.specs.Char.{digit_value}
use Rattle.std.specs.List.{AllByRecursion, position, position_or_len}
use Rattle.std.specs.Str.Parse.{AllDigits}
use Rattle.ipx_settings.specs.Cutting.{is_byte, cut_at}

pub each-append : (P : ℕ → Type 0) (xs ys : List ℕ) → AllByRecursion P xs → AllByRecursion P ys → AllByRecursion P (xs ++ ys)
each-append P [] ys left right = right
each-append P (x ∷ xs) ys left right = (left.0, each-append P xs ys left.1 right)

-- what holds of each digit holds of digits
pub each-digits : (P : ℕ → Type 0) (base : ℕ) (ds : List ℕ) → ((c : ℕ) → digit_value c < base → P c) → AllDigits base ds → AllByRecursion P ds
each-digits P base [] each all = tt
each-digits P base (c ∷ cs) each all = (each c all.0, each-digits P base cs each all.1)

-- none of its bytes is that one
abbrev pub Without : ℕ → List ℕ → Type 0
Without byte xs = AllByRecursion (λ c. c ≢ byte) xs

-- a digit isn't what is none
pub other_byte : (byte c : ℕ) → digit_value byte ≡ 36 → digit_value c < 16 → c ≢ byte
other_byte byte c other low e = omega (arith, low, ap digit_value e, other)

pub first_place : (byte : ℕ) (xs rest : List ℕ) → Without byte xs → position_or_len (is_byte byte) (xs ++ byte ∷ rest) ≡ length xs
first_place byte [] rest none = rw (eq-eqb byte byte refl) refl
first_place byte (x ∷ xs) rest none = rw (ne_eqb x byte none.0, first_place byte xs rest none.1) (omega arith)

no_place : (byte : ℕ) (xs : List ℕ) → Without byte xs → position_or_len (is_byte byte) xs ≡ length xs
no_place byte [] none = refl
no_place byte (x ∷ xs) none = rw (ne_eqb x byte none.0, no_place byte xs none.1) (omega arith)

pub position-without : (byte : ℕ) (xs rest : List ℕ) → Without byte xs → position (is_byte byte) (xs ++ byte ∷ rest) ≡ Some (length xs)
position-without byte xs rest none =
    let there : length xs < length (xs ++ byte ∷ rest) = omega (arith, length-append xs (byte ∷ rest)) in
    rw (first_place byte xs rest none, lt-ltb (length xs) (length (xs ++ byte ∷ rest)) there) refl

pub position-none : (byte : ℕ) (xs : List ℕ) → Without byte xs → position (is_byte byte) xs ≡ None
position-none byte xs none = rw (no_place byte xs none, le-ltb (length xs) (length xs) (omega arith)) refl

-- a text is cut where the byte stands first
pub cut_front : (byte : ℕ) (xs rest : List ℕ) → Without byte xs → cut_at byte (xs ++ byte ∷ rest) ≡ Some (xs, rest)
cut_front byte xs rest none =
    rw (position-without byte xs rest none, take-append_seam xs (byte ∷ rest), drop-append-add xs (byte ∷ rest) 1) refl

pub cut_none : (byte : ℕ) (xs : List ℕ) → Without byte xs → cut_at byte xs ≡ None
cut_none byte xs none = rw (position-none byte xs none) refl
