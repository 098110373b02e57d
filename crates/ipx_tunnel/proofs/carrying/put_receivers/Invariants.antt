use Rattle.std.proofs.Common.{◌≡◌, ◌≤◌, length, filter, take}
use Rattle.ipx_tunnel.specs.Receivers.{is_for}
use Rattle.ipx_tunnel.specs.inside.Kept.{places_of}
use Rattle.ipx_tunnel.proofs.carrying.put_receivers.Given as goal

abbrev pub invariant-loop-client : goal.invariant-loop-client
invariant-loop-client g l = record {
  kept : l.receivers.items ≡ filter (is_for l.to l.sender) (places_of (take l.client-index l.clients));
  few : length l.receivers.items ≤ l.client-index;
}
