-- Texts that are cut.
use Rattle.std.specs.Prelude.{ℕ, ◌+◌, Bool, ◌==◌, List, take, drop, Option, Some, None}
use Rattle.std.specs.List.{position, slice_split}
use Rattle.std.specs.Option.{option_map}

-- what follows, where something is there
infixl 10 ◌>>=◌
abbrev pub ◌>>=◌ : {A B : Type 0} → Option A → (A → Option B) → Option B
None >>= next = None
Some a >>= next = next a

-- the byte
abbrev pub is_byte : ℕ → ℕ → Bool
is_byte byte other = other == byte

-- what stands before the first such byte, and behind it
abbrev pub cut_at : ℕ → List ℕ → Option (List ℕ × List ℕ)
cut_at byte text = option_map (λ k. (take k text, drop (k + 1) text)) (position (is_byte byte) text)

-- the parts between such bytes, of which some may be empty
abbrev pub parts : ℕ → List ℕ → List (List ℕ)
parts byte text = slice_split (is_byte byte) text

abbrev pub dot : ℕ
dot = 46

abbrev pub colon : ℕ
colon = 58

abbrev pub slash : ℕ
slash = 47
