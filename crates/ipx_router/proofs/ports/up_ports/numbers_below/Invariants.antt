use Rattle.std.proofs.Common.{◌≡◌}
use Rattle.ipx_router.specs.Port.{numbers}
use Rattle.ipx_router.proofs.ports.up_ports.numbers_below.Given as goal

abbrev pub invariant-loop-number : goal.invariant-loop-number
invariant-loop-number l = record {
  below : l.below.items ≡ numbers l.number;
}
