use Rattle.std.proofs.Common.{◌≡◌, drop}
use Rattle.ipx_edge.specs.Rules.{names_packet, permits}
use Rattle.ipx_edge.proofs.naming.permits_packet.Given as goal

abbrev pub invariant-loop-rule : goal.invariant-loop-rule
invariant-loop-rule l = permits (names_packet l.port l.packet) (drop l.rule-index l.rules) ≡ permits (names_packet l.port l.packet) l.rules
