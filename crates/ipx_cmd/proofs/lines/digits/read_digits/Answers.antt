use Rattle.std.proofs.Common.{arith, ap, sym, ◌∙◌}
use Rattle.std.proofs.lemmas.List.Sums.{AllPass-from_list_all}
use Rattle.std.specs.Result.{result_ok}
use Rattle.hex.proofs.HexLemmas.{decode_of-even}
use Rattle.hex.specs.Hex.{is_hex_digit}
use Rattle.ipx_cmd.proofs.bytes.TwoDigits.{no_bytes}
use Rattle.ipx_cmd.proofs.lines.digits.read_digits.Goals as goal

pub read_pairs-requires-clause-digits : goal.read_pairs-requires-clause-digits
read_pairs-requires-clause-digits c = AllPass-from_list_all is_hex_digit c.args.digits.now (sym c.if-not-are_digits.ensures)

pub returns-then-not-are_digits : goal.returns-then-not-are_digits
returns-then-not-are_digits c = no_bytes c.args.digits.now (sym c.if-not-are_digits.ensures)

pub returns : goal.returns
returns c = ap result_ok (decode_of-even c.args.digits.now (omega (arith, c.requires)) ∙ c.read_pairs.ensures)
