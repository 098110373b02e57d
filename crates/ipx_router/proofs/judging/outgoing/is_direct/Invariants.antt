use Rattle.std.proofs.Common.{◌≡◌, ◌==◌, take}
use Rattle.std.specs.List.{list_any}
use Rattle.ipx_router.proofs.judging.outgoing.is_direct.Given as goal

abbrev pub invariant-loop-port : goal.invariant-loop-port
invariant-loop-port l = l.any ≡ list_any (λ p. p.network.0 == l.network.0) (take l.port-index l.ports)
