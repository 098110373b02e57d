use Rattle.ipx_cmd.proofs.bytes.FirstThatPasses.{no_line_end, line_parts}
use Rattle.ipx_cmd.proofs.player.first_line.Goals as goal

pub returns-in-Some : goal.returns-in-Some
returns-in-Some c =
    line_parts c.args.bytes.now c.split_at.result.0.now c.split_at.result.1.now c.in-Some.place c.in-Some.ensures c.split_at.ensures.front c.split_at.ensures.back

pub returns-in-None : goal.returns-in-None
returns-in-None c = no_line_end c.args.bytes.now c.in-None.ensures
