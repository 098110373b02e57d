-- The lines of a script.
use Rattle.std.specs.Prelude.{ℕ, ◌-◌, Bool, ◌==◌, nat_eq, nat_lt, if◌then◌else◌, List, [], ◌∷◌, length, take, false, true}
use Rattle.std.specs.List.{ends_with, slice_split}

-- the most bytes of a line, a carriage return at its end counted
abbrev pub longest_line : ℕ
longest_line = 131200

abbrev pub line_feed : ℕ
line_feed = 10

abbrev pub carriage_return : ℕ
carriage_return = 13

abbrev pub is_line_feed : ℕ → Bool
is_line_feed byte = byte == line_feed

-- a line that is too long; as the last of a script that may go on it counts, whatever follows
abbrev pub is_long : List ℕ → Bool
is_long line = nat_lt longest_line (length line)

-- a line that is there; as the last of a whole script it counts, though no line feed ends it
abbrev pub is_any : List ℕ → Bool
is_any [] = false
is_any (byte ∷ line) = true

-- a line without the carriage return at its end
abbrev pub without_return : List ℕ → List ℕ
without_return line = if ends_with nat_eq line (carriage_return ∷ []) then take (length line - 1) line else line

-- the parts that count as lines: each that a line feed ends, and the last one where it passes a test
abbrev pub counted : (List ℕ → Bool) → List (List ℕ) → List (List ℕ)
counted counts [] = []
counted counts (last ∷ []) = if counts last then last ∷ [] else []
counted counts (line ∷ next ∷ more) = line ∷ counted counts (next ∷ more)

-- the lines of bytes that are cut at each line feed
abbrev pub lines_by : (List ℕ → Bool) → List ℕ → List (List ℕ)
lines_by counts bytes = counted counts (slice_split is_line_feed bytes)
