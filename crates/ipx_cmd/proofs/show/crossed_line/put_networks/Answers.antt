use Rattle.std.proofs.Common.{arith}
use Rattle.ipx_cmd.specs.CrossedText.{network_after}
use Rattle.ipx_cmd.proofs.written.GrowsByItems.{listed_more}
use Rattle.ipx_cmd.proofs.show.crossed_line.put_networks.Goals as goal

pub loop-place-preserved : goal.loop-place-preserved
loop-place-preserved c = (
  listed_more network_after c.args.crossed.now c.loop-place.place c.get.result _ _ _ c.get.ensures c.loop-place.invariant.0 c.put_network.ensures.text,
  omega (arith, c.loop-place.invariant.1, c.put_network.ensures.size),
)
