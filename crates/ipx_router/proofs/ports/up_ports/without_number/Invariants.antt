use Rattle.std.proofs.Common.{◌≡◌, ◌==◌, not, filter, take}
use Rattle.ipx_router.proofs.ports.up_ports.without_number.Given as goal

abbrev pub invariant-loop-other : goal.invariant-loop-other
invariant-loop-other l = record {
  others : l.others.items ≡ filter (λ j. not (j == l.number)) (take l.other-index l.up);
}
