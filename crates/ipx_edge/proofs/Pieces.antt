-- Pieces of bytes that were changed at a place.
use Rattle.std.proofs.Common.{◌≡◌, ◌∙◌, sym, ap, ap₂, arith, take-add, ℕ, ◌+◌, ◌-◌, ◌≤◌, List, ◌++◌, length, take, drop, append_assoc, length-append, length-drop, length-take-le, take-take}
use Rattle.std.proofs.lemmas.List.{take_at, drop_at, drop-drop, drop-take}
use Rattle.ipx_wire.specs.Piece.{piece}
use Rattle.ipx_edge.specs.Places.{with_at}

-- a piece of a front is one of the whole
pub piece_within : (bytes : List ℕ) (n place count : ℕ) → place + count ≤ n → piece (take n bytes) place count ≡ piece bytes place count
piece_within bytes n place count fits =
    let whole : n ≡ place + (n - place) = omega (arith, fits) in
    ap (λ (m : ℕ). take count (drop place (take m bytes))) whole
    ∙ ap (take count) (drop-take place (n - place) bytes)
    ∙ take-take count (n - place) (drop place bytes) (omega (arith, fits))

-- a piece of what lies behind a place
pub piece_behind : (bytes : List ℕ) (n place count : ℕ) → piece (drop n bytes) place count ≡ piece bytes (n + place) count
piece_behind bytes n place count = ap (take count) (drop-drop place n bytes)

module _ (place : ℕ) (new bytes : List ℕ) (room : place + length new ≤ length bytes) where
  front : length (take place bytes) ≡ place
  front = length-take-le place bytes (omega (arith, room))

  both : length (take place bytes ++ new) ≡ place + length new
  both = omega (arith, length-append (take place bytes) new, front)

  pub length_with : length (with_at place new bytes) ≡ length bytes
  unfolding with_at
  length_with =
      omega (arith, length-append (take place bytes ++ new) (drop (place + length new) bytes), both, length-drop (place + length new) bytes, room)

  pub front_with : take place (with_at place new bytes) ≡ take place bytes
  unfolding with_at
  front_with =
      ap (take place) (append_assoc (take place bytes) new (drop (place + length new) bytes))
      ∙ take_at (take place bytes) (new ++ drop (place + length new) bytes) place front

  pub back_with : drop (place + length new) (with_at place new bytes) ≡ drop (place + length new) bytes
  unfolding with_at
  back_with = drop_at (take place bytes ++ new) (drop (place + length new) bytes) (place + length new) both

  pub before_with : (i n : ℕ) → i + n ≤ place → piece (with_at place new bytes) i n ≡ piece bytes i n
  before_with i n fits =
      sym (piece_within (with_at place new bytes) place i n fits)
      ∙ ap (λ (l : List ℕ). piece l i n) front_with
      ∙ piece_within bytes place i n fits

  pub behind_with : (i n : ℕ) → place + length new ≤ i → piece (with_at place new bytes) i n ≡ piece bytes i n
  behind_with i n far =
      let size = place + length new in
      let whole : i ≡ size + (i - size) = omega (arith, far) in
      ap (λ (m : ℕ). piece (with_at place new bytes) m n) whole
      ∙ sym (piece_behind (with_at place new bytes) size (i - size) n)
      ∙ ap (λ (l : List ℕ). piece l (i - size) n) back_with
      ∙ piece_behind bytes size (i - size) n
      ∙ ap (λ (m : ℕ). piece bytes m n) (sym whole)

  pub piece_with : (n : ℕ) → length new ≡ n → piece (with_at place new bytes) place n ≡ new
  unfolding with_at
  piece_with n size =
      ap (λ (l : List ℕ). take n (drop place l)) (append_assoc (take place bytes) new (drop (place + length new) bytes))
      ∙ ap (take n) (drop_at (take place bytes) (new ++ drop (place + length new) bytes) place front)
      ∙ take_at new (drop (place + length new) bytes) n size

  -- the first bytes, where they were changed within these
  pub front_of_with : (n : ℕ) → place + length new ≤ n → n ≤ length bytes → take n (with_at place new bytes) ≡ with_at place new (take n bytes)
  unfolding with_at
  front_of_with n within most =
      let size = place + length new in
      let whole : n ≡ size + (n - size) = omega (arith, within) in
      ap (λ (m : ℕ). take m (with_at place new bytes)) whole
      ∙ take-add size (n - size) (with_at place new bytes)
      ∙ ap₂ (λ (a b : List ℕ). a ++ take (n - size) b) (take_at (take place bytes ++ new) (drop size bytes) size both) back_with
      ∙ ap₂ (λ (a b : List ℕ). a ++ new ++ b) (sym (take-take place n bytes (omega (arith, within))))
      (sym (drop-take size (n - size) bytes) ∙ ap (λ (m : ℕ). drop size (take m bytes)) (sym whole))
