-- Lists of bytes, and pieces of them.
use Rattle.std.specs.Prelude.{ℕ, ◌<◌, List, take, drop, slice_index}

-- each number is a byte
abbrev pub IsBytes : List ℕ → Type 0
IsBytes bytes = (i : ℕ) → slice_index bytes i < 256

-- n bytes from a place on
abbrev pub piece : List ℕ → ℕ → ℕ → List ℕ
piece bytes place n = take n (drop place bytes)
