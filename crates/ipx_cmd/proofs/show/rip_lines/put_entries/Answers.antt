use Rattle.std.proofs.Common.{arith}
use Rattle.ipx_cmd.specs.RipText.{route_entry_text}
use Rattle.ipx_cmd.proofs.written.GrowsByItems.{listed_more}
use Rattle.ipx_cmd.proofs.show.rip_lines.put_entries.Goals as goal

pub loop-place-preserved : goal.loop-place-preserved
loop-place-preserved c = (
  listed_more route_entry_text c.args.rip.now.entries c.loop-place.place c.entry.result _ _ _ c.entry.ensures c.loop-place.invariant.0 c.put_entry.ensures.text,
  omega (arith, c.loop-place.invariant.1, c.put_entry.ensures.most),
)
