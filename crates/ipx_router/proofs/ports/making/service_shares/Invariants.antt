use Rattle.std.proofs.Common.{◌≡◌, map, take}
use Rattle.ipx_router.proofs.ports.making.service_shares.Given as goal

abbrev pub invariant-loop-port : goal.invariant-loop-port
invariant-loop-port l = record {
  shares : l.shares.items ≡ map (λ p. p.service_share) (take l.port-index l.ports);
}
