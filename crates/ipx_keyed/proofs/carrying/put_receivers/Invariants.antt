use Rattle.std.proofs.Common.{◌≡◌, ◌≤◌, length, take}
use Rattle.ipx_keyed.specs.Receivers.{for_whom}
use Rattle.ipx_keyed.proofs.carrying.put_receivers.Given as goal

abbrev pub invariant-loop-client : goal.invariant-loop-client
invariant-loop-client g l = record {
  kept : l.receivers.items ≡ for_whom l.to l.sender (take l.client-index l.clients);
  few : length l.receivers.items ≤ l.client-index;
}
