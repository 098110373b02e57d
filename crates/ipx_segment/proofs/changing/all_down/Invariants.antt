use Rattle.std.proofs.Common.{◌≡◌, replicate}
use Rattle.ipx_segment.specs.declared.link.Link.TheVariants.{Down}
use Rattle.ipx_segment.proofs.changing.all_down.Given as goal

abbrev pub invariant-loop : goal.invariant-loop
invariant-loop g l = record {
  down : l.links.items ≡ replicate l.counter Down;
}
