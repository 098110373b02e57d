use Rattle.std.proofs.Common.{◌≡◌, drop}
use Rattle.ipx_edge.specs.Rules.{names_service, permits}
use Rattle.ipx_edge.proofs.naming.permits_service.Given as goal

abbrev pub invariant-loop-rule : goal.invariant-loop-rule
invariant-loop-rule l = permits (names_service l.way l.entry) (drop l.rule-index l.rules) ≡ permits (names_service l.way l.entry) l.rules
