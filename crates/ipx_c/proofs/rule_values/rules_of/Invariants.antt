use Rattle.std.proofs.Common.{◌≡◌, ◌≤◌, ◌++◌, length, drop}
use Rattle.std.specs.Option.{option_map}
use Rattle.ipx_c.specs.RuleValues.{rules_of}
use Rattle.ipx_c.proofs.rule_values.rules_of.Given as goal

abbrev pub invariant-loop-value : goal.invariant-loop-value
invariant-loop-value l = record {
  rules : rules_of l.values ≡ option_map (λ rest. l.rules.items ++ rest) (rules_of (drop l.value-index l.values));
  few : length l.rules.items ≤ l.value-index;
}
