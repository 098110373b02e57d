use Rattle.std.proofs.Common.{◌≡◌, ◌+◌, arith, length, take}
use Rattle.std.proofs.lemmas.List.{length-take}
use Rattle.std.specs.List.{flat_map}
use Rattle.ipx_wire.specs.Rip.{entry_bytes}
use Rattle.ipx_wire.proofs.Entries.{length-entries}
use Rattle.ipx_wire.proofs.Puts.{puts_more}
use Rattle.ipx_wire.proofs.write.put_entries.Goals as goal

pub loop-entry-preserved : goal.loop-entry-preserved
loop-entry-preserved c =
    let before = take c.loop-entry.entry-index c.args.entries.now in
    let where_next = c.loop-entry.invariant.next in
    let place : c.loop-entry.next ≡ c.args.place + length (flat_map entry_bytes before) =
    omega (arith, where_next, length-entries before, length-take c.loop-entry.entry-index c.args.entries.now) in
    record {
      written = puts_more entry_bytes c.args.entries.now c.loop-entry.entry-index _ _ _ _ _ _ c.loop-entry-test.true
          c.loop-entry.invariant.written c.put_entry.ensures place;
      next = omega (arith, where_next);
    }
