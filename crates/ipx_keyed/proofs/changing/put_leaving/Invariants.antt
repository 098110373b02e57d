use Rattle.std.proofs.Common.{◌≡◌, ◌≤◌, length, filter, take, not}
use Rattle.ipx_keyed.specs.Members.{stays}
use Rattle.ipx_keyed.proofs.changing.put_leaving.Given as goal

abbrev pub invariant-loop-client : goal.invariant-loop-client
invariant-loop-client g l = record {
  kept : l.left.items ≡ filter (λ c. not (stays c)) (take l.client-index l.clients);
  few : length l.left.items ≤ l.client-index;
}
