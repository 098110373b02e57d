use Rattle.std.proofs.Common.{◌≡◌, ◌+◌, ◌*◌, take}
use Rattle.std.specs.List.{flat_map}
use Rattle.ipx_wire.specs.Put.{PutsAt}
use Rattle.ipx_wire.specs.Rip.{entry_bytes}
use Rattle.ipx_wire.proofs.write.put_entries.Given as goal

abbrev pub invariant-loop-entry : goal.invariant-loop-entry
invariant-loop-entry l = record {
  written : PutsAt l.initial.out l.place (flat_map entry_bytes (take l.entry-index l.entries)) l.out;
  next : l.next ≡ l.place + 8 * l.entry-index;
}
