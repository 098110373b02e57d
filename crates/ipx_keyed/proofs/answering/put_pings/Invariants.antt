use Rattle.std.proofs.Common.{◌≡◌, ◌≤◌, length, take}
use Rattle.ipx_keyed.specs.Own.{pings_of}
use Rattle.ipx_keyed.proofs.answering.put_pings.Given as goal

abbrev pub invariant-loop-client : goal.invariant-loop-client
invariant-loop-client g l = record {
  kept : l.pings.items ≡ pings_of l.setting (take l.client-index l.clients) l.waiting;
  few : length l.pings.items ≤ l.client-index;
}
