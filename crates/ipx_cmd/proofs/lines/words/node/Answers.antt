use Rattle.ipx_cmd.proofs.bytes.HexWords.{no_node}
use Rattle.ipx_cmd.proofs.lines.words.node.Goals as goal

pub returns-in-Err : goal.returns-in-Err
returns-in-Err c = no_node c.args.word.now c.in-Err.ensures.cases.0
