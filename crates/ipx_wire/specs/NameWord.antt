-- The name of a service as one word.
use Rattle.std.specs.Prelude.{ℕ, Bool, ◌&&◌, ◌==◌, nat_le, if◌then◌else◌, not, List, [], ◌∷◌}
use Rattle.std.specs.List.{flat_map}
use Rattle.hex.specs.Hex.{encode_upper}

-- a byte that stands for itself: visible ASCII other than the backslash
abbrev pub is_plain_byte : ℕ → Bool
is_plain_byte byte = nat_le 0x21 byte && nat_le byte 0x7E && not (byte == 0x5C)

-- a byte of a name: itself, or a backslash and two upper-case digits
abbrev pub byte_word : ℕ → List ℕ
byte_word byte = if is_plain_byte byte then byte ∷ [] else 0x5C ∷ encode_upper (byte ∷ [])

-- a name as one word
unfoldable pub name_word : List ℕ → List ℕ
name_word name = flat_map byte_word name
