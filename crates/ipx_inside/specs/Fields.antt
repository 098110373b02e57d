-- Words and what stands behind them.
use Rattle.std.specs.Prelude.{ℕ, ◌==◌, ◌/◌, ◌%◌, if◌then◌else◌, List, [], ◌++◌, length}

-- a word and a name, which may be none: then neither
abbrev pub named : List ℕ → List ℕ → List ℕ
named word name = if length name == 0 then [] else word ++ name

-- a word where the bit of a byte is set
abbrev pub flagged : ℕ → ℕ → List ℕ → List ℕ
flagged byte bit word = if byte / bit % 2 == 1 then word else []
