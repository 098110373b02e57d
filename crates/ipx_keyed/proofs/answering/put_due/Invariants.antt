use Rattle.std.proofs.Common.{◌≡◌, ◌≤◌, length, take}
use Rattle.ipx_keyed.specs.Own.{due_of}
use Rattle.ipx_keyed.proofs.answering.put_due.Given as goal

abbrev pub invariant-loop-client : goal.invariant-loop-client
invariant-loop-client g l = record {
  kept : l.due.items ≡ due_of l.setting (take l.client-index l.waiting);
  few : length l.due.items ≤ l.client-index;
}
