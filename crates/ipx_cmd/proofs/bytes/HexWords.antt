use Rattle.std.proofs.Common.{◌≡◌, ℕ, ◌<◌, true, List, sym, ap, arith, None, Result}
use Rattle.std.proofs.lemmas.Bool.Decides.{nat_tests}
use Rattle.std.proofs.lemmas.List.Elements.{All-weaker}
use Rattle.std.proofs.lemmas.Str.{IsUtf8-from_ascii}
use Rattle.std.proofs.lemmas.Str.Ascii.{IsAscii-from_all}
use Rattle.std.specs.Int.{from_be_bytes, w32}
use Rattle.std.specs.List.{AllPass}
use Rattle.std.specs.Option.{option_map}
use Rattle.std.specs.Result.{result_ok, is_ok}
use Rattle.std.specs.Str.{IsUtf8}
use Rattle.hex.proofs.HexLemmas.{IsOk-decode_sized}
use Rattle.hex.specs.Hex.{decode_sized, is_hex_digit}
use Rattle.hex.specs.declared.error.FromHexError.{FromHexError}
use Rattle.ipx_wire.specs.Digits.{bytes_of_digits, network_of, node_of}

-- hexadecimal digits are ASCII
digit_is_ascii : (b : ℕ) → is_hex_digit b ≡ true → b < 128
digit_is_ascii b e = grind (arith, nat_tests)

-- so they are text
digits_are_text : (word : List ℕ) → AllPass is_hex_digit word → IsUtf8 word
digits_are_text word digits = grind (arith, IsUtf8-from_ascii, IsAscii-from_all, All-weaker, digit_is_ascii)

-- what isn't read
refused : (d : Result (List ℕ) FromHexError) → (is_ok d ≡ true → ⊥) → result_ok d ≡ None
refused d bad = grind arith

-- a word that is no text names no bytes
pub no_bytes : (count : ℕ) (word : List ℕ) → ¬ (IsUtf8 word) → bytes_of_digits count word ≡ None
no_bytes count word bad = refused (decode_sized word count) (λ ok. bad (digits_are_text word ((IsOk-decode_sized word count).0 ok).1))

pub no_network : (word : List ℕ) → ¬ (IsUtf8 word) → None ≡ network_of word
no_network word bad = sym (ap (option_map (from_be_bytes w32)) (no_bytes 4 word bad))

pub no_node : (word : List ℕ) → ¬ (IsUtf8 word) → None ≡ node_of word
no_node word bad = sym (no_bytes 6 word bad)
