use Rattle.std.proofs.Common.{◌≡◌, ◌≤◌, length, map, filter, take}
use Rattle.ipx_tunnel.specs.Own.{ping_to}
use Rattle.ipx_tunnel.specs.inside.Kept.{pings_now}
use Rattle.ipx_tunnel.proofs.answering.put_pings.Given as goal

abbrev pub invariant-loop-client : goal.invariant-loop-client
invariant-loop-client g l = record {
  kept : l.pings.items ≡ map (λ c. ping_to l.network c.place c.cookie) (filter pings_now (take l.client-index l.clients));
  few : length l.pings.items ≤ l.client-index;
}
