use Rattle.ipx_cmd.proofs.written.WrittenUpToAPlace.{written_more}
use Rattle.ipx_cmd.proofs.texts.flushing.write_whole.Goals as goal

pub loop-at-preserved : goal.loop-at-preserved
loop-at-preserved g c =
    written_more c.args.outlet.now c.loop-at.outlet c.write.new.self c.args.bytes.now c.loop-at.at c.in-Ok.count c.loop-at.invariant c.in-Ok.ensures.ok
