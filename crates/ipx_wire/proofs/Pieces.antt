use Rattle.std.proofs.Common.{rules}
use Rattle.std.proofs.lemmas.Grind.{common_steps}
use Rattle.std.proofs.Common.{◌≡◌, ℕ, ◌+◌, ◌-◌, ◌≤◌, ◌<◌, ◌^◌, List, [], ◌∷◌, ◌++◌, length, take, drop, get_or, ap, ◌∙◌, arith, take-add, take-take, length-drop, length-take}
use Rattle.std.proofs.lemmas.List.{drop-drop, get_or-drop, drop-take}
use Rattle.std.proofs.lemmas.Nat.{be_bytes_2, be_bytes_4}
use Rattle.std.specs.Int.{to_be_bytes, from_be_bytes, w16, w32}
use Rattle.ipx_wire.specs.Piece.{piece, IsBytes}

-- a piece and the one behind it are one piece
pieces : (bytes : List ℕ) (place m n : ℕ) → piece bytes place m ++ piece bytes (place + m) n ≡ piece bytes place (m + n)
pieces bytes place m n = grind (arith, drop-drop, take-add)

-- two pieces, the second where the first ends, are one
pub glue : (x y bytes : List ℕ) (place next m n : ℕ) → next ≡ place + m → x ≡ piece bytes place m → y ≡ piece bytes next n
    → x ++ y ≡ piece bytes place (m + n)
glue x y bytes place next m n e left right = grind (arith, pieces)

-- how many bytes a piece has
pub length-piece : (bytes : List ℕ) (place n : ℕ) → place + n ≤ length bytes → length (piece bytes place n) ≡ n
length-piece bytes place n room = omega (arith, length-take n (drop place bytes), length-drop place bytes)

-- a byte of the front
in_front : (n i : ℕ) (bytes : List ℕ) → IsBytes bytes → get_or (take n bytes) i 0 < 256
in_front n i bytes are = grind (arith, common_steps)

-- the bytes of a piece are bytes
pub are_bytes : (bytes : List ℕ) (place n : ℕ) → IsBytes bytes → IsBytes (piece bytes place n)
are_bytes bytes place n are i = grind (arith, in_front, get_or-drop)

-- a number of two bytes that was read has these bytes
pub bytes_16 : (bytes : List ℕ) (place : ℕ) → IsBytes bytes → place + 2 ≤ length bytes
    → to_be_bytes w16 (from_be_bytes w16 (piece bytes place 2)) ≡ piece bytes place 2
bytes_16 bytes place are room = search (rules, be_bytes_2, length-piece, are_bytes)

pub bytes_32 : (bytes : List ℕ) (place : ℕ) → IsBytes bytes → place + 4 ≤ length bytes
    → to_be_bytes w32 (from_be_bytes w32 (piece bytes place 4)) ≡ piece bytes place 4
bytes_32 bytes place are room = search (rules, be_bytes_4, length-piece, are_bytes)

-- two bytes are a number below 65536
below_16 : (bytes : List ℕ) → length bytes ≡ 2 → IsBytes bytes → from_be_bytes w16 bytes < 2 ^ 16
below_16 bytes size are = grind arith

-- four bytes are a number below 4294967296
below_32 : (bytes : List ℕ) → length bytes ≡ 4 → IsBytes bytes → from_be_bytes w32 bytes < 2 ^ 32
below_32 bytes size are = grind arith

-- a number that was read is in the range of its type
pub range_16 : (bytes : List ℕ) (place : ℕ) → IsBytes bytes → place + 2 ≤ length bytes → from_be_bytes w16 (piece bytes place 2) < 2 ^ 16
range_16 bytes place are room = below_16 (piece bytes place 2) (length-piece bytes place 2 room) (are_bytes bytes place 2 are)

pub range_32 : (bytes : List ℕ) (place : ℕ) → IsBytes bytes → place + 4 ≤ length bytes → from_be_bytes w32 (piece bytes place 4) < 2 ^ 32
range_32 bytes place are room = below_32 (piece bytes place 4) (length-piece bytes place 4 room) (are_bytes bytes place 4 are)

single : (bytes : List ℕ) → 0 < length bytes → get_or bytes 0 0 ∷ [] ≡ take 1 bytes
single bytes below = grind arith

-- one byte is a piece
pub byte_at : (bytes : List ℕ) (place : ℕ) → place < length bytes → get_or bytes place 0 ∷ [] ≡ piece bytes place 1
byte_at bytes place below = grind (arith, common_steps, get_or-drop, length-drop, single)

-- a piece of a front is a piece of the whole
pub front_of_front : (i n m : ℕ) (bytes : List ℕ) → i + n ≤ m → take n (drop i (take m bytes)) ≡ take n (drop i bytes)
front_of_front i n m bytes within =
    let whole : m ≡ i + (m - i) = omega arith in
    let few : n ≤ m - i = omega arith in
    ap (λ (k : ℕ). take n (drop i (take k bytes))) whole
    ∙ ap (take n) (drop-take i (m - i) bytes)
    ∙ take-take n (m - i) (drop i bytes) few

-- a piece of a piece is a piece of the whole
pub piece-piece : (bytes : List ℕ) (place m i n : ℕ) → i + n ≤ m → piece (piece bytes place m) i n ≡ piece bytes (place + i) n
piece-piece bytes place m i n within = grind (arith, front_of_front, drop-drop)
