-- Words that are numbers.
use Rattle.std.specs.Prelude.{ℕ, Bool, ◌==◌, ◌&&◌, nat_lt, nat_le, if◌then◌else◌, List, length, Option, Some, None, not}
use Rattle.std.specs.Char.{digit_value}
use Rattle.std.specs.List.{list_all}
use Rattle.std.specs.Str.Parse.{digits_value}

-- decimal and hexadecimal digits
abbrev pub decimal_base : ℕ
decimal_base = 10

abbrev pub hexadecimal_base : ℕ
hexadecimal_base = 16

-- a digit to this base, of either case
abbrev pub is_digit_to : ℕ → ℕ → Bool
is_digit_to base byte = nat_lt (digit_value byte) base

-- one digit or more, and nothing else
abbrev pub is_numeral : ℕ → List ℕ → Bool
is_numeral base word = not (length word == 0) && list_all (is_digit_to base) word

-- the number that a word writes, where it lies between these
abbrev pub number_to : ℕ → ℕ → ℕ → List ℕ → Option ℕ
number_to base least most word =
    if is_numeral base word && nat_le least (digits_value base word) && nat_le (digits_value base word) most then Some (digits_value base word) else None

abbrev pub number_of : ℕ → ℕ → List ℕ → Option ℕ
number_of least most word = number_to decimal_base least most word

-- the same of hexadecimal digits, at most so many
abbrev pub hexadecimal_of : ℕ → ℕ → ℕ → List ℕ → Option ℕ
hexadecimal_of digits least most word =
    if nat_le (length word) digits then number_to hexadecimal_base least most word else None
