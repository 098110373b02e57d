use Rattle.std.proofs.Common.{◌≡◌, ◌≤◌, take, true}
use Rattle.std.specs.List.{list_all}
use Rattle.std.specs.Str.Parse.{digits_value}
use Rattle.ipx_settings.specs.Numbers.{is_digit_to}
use Rattle.ipx_settings.proofs.numbers.value.Given as goal

abbrev pub invariant-loop-byte : goal.invariant-loop-byte
invariant-loop-byte l =
    (l.value ≡ digits_value l.base (take l.byte-index l.word)) × (list_all (is_digit_to l.base) (take l.byte-index l.word) ≡ true) × (l.value ≤ l.most)
