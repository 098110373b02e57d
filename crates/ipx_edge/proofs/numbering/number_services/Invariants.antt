use Rattle.std.proofs.Common.{◌≡◌, length}
use Rattle.ipx_edge.specs.Numbered.{with_services}
use Rattle.ipx_edge.proofs.numbering.number_services.Given as goal

abbrev pub invariant-loop-k : goal.invariant-loop-k
invariant-loop-k l = record {
  numbered : l.bytes ≡ with_services l.port l.k l.fn.bytes;
  size : length l.bytes ≡ length l.fn.bytes;
}
