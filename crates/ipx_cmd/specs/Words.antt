-- The words of a line, and what one says: a number, or bytes.
use Rattle.std.specs.Prelude.{ℕ, Bool, ◌==◌, ◌&&◌, ◌||◌, nat_le, if◌then◌else◌, List, [], ◌∷◌, length, Option, Some, None, codes, filter, not}
use Rattle.std.specs.List.{list_all, slice_split}
use Rattle.std.specs.Char.{is_ascii_digit}
use Rattle.std.specs.Str.{bytes_eq}
use Rattle.std.specs.Str.Parse.{digits_value}
use Rattle.std.specs.Option.{option_map}
use Rattle.std.specs.Result.{result_ok}
use Rattle.hex.specs.Hex.{decode_of}

-- a space or a tab, which stand between words
abbrev pub is_blank : ℕ → Bool
is_blank byte = (byte == 32) || (byte == 9)

-- a byte that a line may have: a tab, or a printable character of ASCII
abbrev pub is_text_byte : ℕ → Bool
is_text_byte byte = (byte == 9) || (nat_le 32 byte && nat_le byte 126)

-- the words of a line: what stands between its blanks, the empty parts left out
abbrev pub words : List ℕ → List (List ℕ)
words line = filter (λ part. not (length part == 0)) (slice_split is_blank line)

-- the one item of a list that has no other
abbrev pub only_one : {X : Type 0} → List X → Option X
only_one [] = None
only_one (a ∷ []) = Some a
only_one (a ∷ b ∷ more) = None

-- the items of a list of just two
abbrev pub only_two : {X : Type 0} → List X → Option (X × X)
only_two [] = None
only_two (a ∷ []) = None
only_two (a ∷ b ∷ []) = Some (a, b)
only_two (a ∷ b ∷ c ∷ more) = None

-- the items of a list of just three
abbrev pub only_three : {X : Type 0} → List X → Option (X × X × X)
only_three [] = None
only_three (a ∷ more) = option_map (λ two. (a, two.0, two.1)) (only_two more)

-- the items of a list of just four
abbrev pub only_four : {X : Type 0} → List X → Option (X × X × X × X)
only_four [] = None
only_four (a ∷ more) = option_map (λ three. (a, three.0, three.1, three.2)) (only_three more)

-- the words of a port's shares: none, or two
abbrev pub share_words : {X : Type 0} → List X → Option (Option (X × X))
share_words [] = Some None
share_words (a ∷ more) = option_map Some (only_two (a ∷ more))

-- the words that name a port: four, and, where shares are named, two more
abbrev pub port_words : {X : Type 0} → List X → Option (X × X × X × X × Option (X × X))
port_words [] = None
port_words (a ∷ []) = None
port_words (a ∷ b ∷ []) = None
port_words (a ∷ b ∷ c ∷ []) = None
port_words (a ∷ b ∷ c ∷ d ∷ more) = option_map (λ shares. (a, b, c, d, shares)) (share_words more)

-- one to seven decimal digits
abbrev pub is_numeral : List ℕ → Bool
is_numeral word = nat_le 1 (length word) && nat_le (length word) 7 && list_all is_ascii_digit word

-- the number that a word names, where it is at most this
abbrev pub number_of : ℕ → List ℕ → Option ℕ
number_of most word =
    if is_numeral word && nat_le (digits_value 10 word) most then Some (digits_value 10 word) else None

-- the number that a word names, where it lies between these
abbrev pub number_between : ℕ → ℕ → List ℕ → Option ℕ
number_between least most word =
    if is_numeral word && nat_le least (digits_value 10 word) && nat_le (digits_value 10 word) most then Some (digits_value 10 word) else None

-- the bytes that a word names: `-` for none, else two hexadecimal digits or more, two a byte
abbrev pub bytes_of : List ℕ → Option (List ℕ)
bytes_of word =
    if bytes_eq word (codes "-") then Some []
    else if length word == 0 then None
    else result_ok (decode_of word)
