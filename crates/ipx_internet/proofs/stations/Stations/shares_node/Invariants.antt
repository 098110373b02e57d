use Rattle.std.proofs.Common.{◌≡◌, ℕ, ◌<◌, false}
use Rattle.ipx_router.specs.Port.{port_at}
use Rattle.ipx_internet.proofs.places.NodeIsTaken.{is_taken}
use Rattle.ipx_internet.proofs.stations.Stations.shares_node.Given as goal

abbrev pub invariant-loop-number : goal.invariant-loop-number
invariant-loop-number g l = record {
  none : (k : ℕ) → k < l.number → is_taken l.self.list (port_at l.router.ports k) ≡ false;
}
