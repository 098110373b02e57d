-- Pieces of pieces.
use Rattle.std.proofs.lemmas.Grind.{common_steps}
use Rattle.std.proofs.Common.{◌≡◌, ℕ, ◌<◌, get_or, ◌+◌, ◌-◌, ◌≤◌, List, ◌++◌, length, take, drop, sym, ap, ◌∙◌, arith, drop-drop, take-take, length-take-le, length-drop, length-append}
use Rattle.std.proofs.Math.Seq.{take-add, take-append-add}
use Rattle.std.proofs.lemmas.List.{get_or-drop, drop-take, take-append-le}
use Rattle.ipx_wire.specs.Piece.{piece, IsBytes}

-- what stands behind the first bytes of a piece
pub piece_behind : (b : List ℕ) (from count at : ℕ) → at ≤ count → drop at (piece b from count) ≡ piece b (from + at) (count - at)
piece_behind b from count at h =
    let e : count ≡ at + (count - at) = omega arith in
    ap (λ k. drop at (take k (drop from b))) e ∙ drop-take at (count - at) (drop from b) ∙ ap (take (count - at)) (drop-drop at from b)

-- a piece of a piece
pub piece_within : (b : List ℕ) (from count at n : ℕ) → at + n ≤ count → piece (piece b from count) at n ≡ piece b (from + at) n
piece_within b from count given n h = grind (arith, piece_behind, take-take)

-- lists with the same front have the same pieces there
pub piece_front : (a b : List ℕ) (at n : ℕ) → take (at + n) a ≡ take (at + n) b → piece a at n ≡ piece b at n
piece_front a b at n e = sym (drop-take at n a) ∙ ap (drop at) e ∙ drop-take at n b

pub length_piece : (b : List ℕ) (at n : ℕ) → at + n ≤ length b → length (piece b at n) ≡ n
length_piece b at n h = length-take-le n (drop at b) (omega (arith, length-drop at b))

-- two pieces, one behind the other
pub piece_grown : (b : List ℕ) (at m n : ℕ) → piece b at (m + n) ≡ piece b at m ++ piece b (at + m) n
piece_grown b at m n = take-add m n (drop at b) ∙ ap (λ l. take m (drop at b) ++ take n l) (drop-drop m at b)

-- the front of a buffer after a write of its rest
pub front_written : (bytes rest behind : List ℕ) (at n : ℕ) → at ≤ length bytes → n ≤ length rest → take (at + n) (take at bytes ++ (rest ++ behind)) ≡ take at bytes ++ take n rest
front_written bytes rest behind given n within some = grind (arith, length-take-le, take-append-add, take-append-le)

pub length_written : (bytes rest behind : List ℕ) (at n : ℕ) → at ≤ length bytes → n ≤ length rest → at + n ≤ length (take at bytes ++ (rest ++ behind))
length_written bytes rest behind given n within some = grind (arith, length-append, length-take-le)

-- a byte of the front
in_front : (n i : ℕ) (bytes : List ℕ) → IsBytes bytes → get_or (take n bytes) i 0 < 256
in_front n i bytes are = grind (arith, common_steps)

-- the bytes of a piece are bytes
pub are_bytes : (bytes : List ℕ) (at n : ℕ) → IsBytes bytes → IsBytes (piece bytes at n)
are_bytes bytes at n are i = in_front n i (drop at bytes) (λ k. rw (get_or-drop at bytes k 0) (are (at + k)))
