-- Network numbers and nodes as hexadecimal text.
use Rattle.std.specs.Prelude.{ℕ, List, Option, option_map}
use Rattle.std.specs.Int.{from_be_bytes, w32}
use Rattle.std.specs.Result.{result_ok}
use Rattle.hex.specs.Hex.{decode_sized}

-- that many bytes, of exactly two hexadecimal digits each, in either case
abbrev pub bytes_of_digits : ℕ → List ℕ → Option (List ℕ)
bytes_of_digits count text = result_ok (decode_sized text count)

-- the network number that eight digits name
abbrev pub network_of : List ℕ → Option ℕ
network_of text = option_map (from_be_bytes w32) (bytes_of_digits 4 text)

-- the six bytes of the node that twelve digits name
abbrev pub node_of : List ℕ → Option (List ℕ)
node_of text = bytes_of_digits 6 text
