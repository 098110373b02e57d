use Rattle.ipx_cmd.proofs.bytes.HexWords.{no_network}
use Rattle.ipx_cmd.proofs.lines.words.network.Goals as goal

pub returns-in-Err : goal.returns-in-Err
returns-in-Err c = no_network c.args.word.now c.in-Err.ensures.cases.0
