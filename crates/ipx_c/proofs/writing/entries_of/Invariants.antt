use Rattle.std.proofs.Common.{◌≡◌, map, take}
use Rattle.ipx_c.specs.Writes.{entry_of}
use Rattle.ipx_c.proofs.writing.entries_of.Given as goal

abbrev pub invariant-loop-value : goal.invariant-loop-value
invariant-loop-value l = record {
  entries : l.entries.items ≡ map entry_of (take l.value-index l.values);
}
