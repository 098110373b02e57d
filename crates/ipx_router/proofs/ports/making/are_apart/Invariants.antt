use Rattle.std.proofs.Common.{◌≡◌, ℕ, suc, ◌<◌, false, drop}
use Rattle.ipx_router.specs.Port.{port_at}
use Rattle.ipx_router.proofs.port_values.NoTwoOnOneNetwork.{has_network}
use Rattle.ipx_router.proofs.ports.making.are_apart.Given as goal

abbrev pub invariant-loop-place : goal.invariant-loop-place
invariant-loop-place l = record {
  none : (k : ℕ) → k < l.place → has_network (drop (suc k) l.ports) (port_at l.ports k).network ≡ false;
}
