use Rattle.std.proofs.Common.{◌≡◌, drop}
use Rattle.ipx_router.specs.Outgoing.{port_to}
use Rattle.ipx_router.proofs.judging.outgoing.port_to.Given as goal

abbrev pub invariant-loop-number : goal.invariant-loop-number
invariant-loop-number l = record {
  left : port_to l.ports (drop l.number-index l.up) l.network ≡ port_to l.ports l.up l.network;
}
