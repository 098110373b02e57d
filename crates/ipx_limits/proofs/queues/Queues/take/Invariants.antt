use Rattle.std.proofs.Common.{◌≤◌, max}
use Rattle.ipx_limits.specs.Queues.{IsFirst}
use Rattle.ipx_limits.proofs.queues.Queues.take.Given as goal

abbrev pub invariant-loop-number : goal.invariant-loop-number
invariant-loop-number l = record {
  not_before : l.first ≤ l.found;
  not_behind : l.found ≤ l.number;
  within : l.number ≤ max l.first l.last;
  fewest : IsFirst l.self l.first l.number l.found;
}
