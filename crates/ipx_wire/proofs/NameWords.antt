use Rattle.std.proofs.lemmas.Grind.{common_steps}
use Rattle.std.proofs.Common.{◌≡◌, ℕ, ◌+◌, ◌<◌, Bool, true, if◌then◌else◌, arith, List, [], ◌∷◌, ◌++◌, length, take, get_or, refl}
use Rattle.std.proofs.lemmas.Bool.Decides.{nat_tests}
use Rattle.std.proofs.lemmas.List.{flat_map_more, take_more}
use Rattle.std.proofs.lemmas.Str.{IsAscii-append}
use Rattle.std.proofs.lemmas.Str.Ascii.{IsAscii-cons, IsAscii-nil}
use Rattle.std.specs.Str.{IsAscii}
use Rattle.hex.specs.Hex.{encode_upper}
use Rattle.ipx_wire.proofs.HexText.{IsAscii-encode_upper}
use Rattle.ipx_wire.specs.NameWord.{byte_word, is_plain_byte, name_word}

-- no bytes, no word
pub name_word-none : name_word [] ≡ []
unfolding name_word
name_word-none = refl

-- one byte more
pub name_word-more : (xs : List ℕ) (i : ℕ) → i < length xs → name_word (take i xs) ++ byte_word (get_or xs i 0) ≡ name_word (take (i + 1) xs)
unfolding name_word
name_word-more xs i below = grind (arith, common_steps, flat_map_more, take_more)

-- ---- the word is ASCII

ascii_cases : (b : ℕ) (plain : Bool) → (plain ≡ true → b < 128) → IsAscii (if plain then b ∷ [] else 0x5C ∷ encode_upper (b ∷ []))
ascii_cases b plain small = grind (arith, IsAscii-cons, IsAscii-nil, IsAscii-encode_upper)

IsAscii-byte_word : (b : ℕ) → IsAscii (byte_word b)
IsAscii-byte_word b = ascii_cases b (is_plain_byte b) (λ plain. grind (arith, nat_tests))

pub IsAscii-name_word : (name : List ℕ) → IsAscii (name_word name)
unfolding name_word
IsAscii-name_word [] = IsAscii-nil
IsAscii-name_word (b ∷ name) = IsAscii-append (byte_word b) (name_word name) (IsAscii-byte_word b) (IsAscii-name_word name)

-- as the front of a room that it was written to
pub ascii_front : (front name : List ℕ) → front ≡ name_word name → IsAscii front
ascii_front front name e = rw e (IsAscii-name_word name)
