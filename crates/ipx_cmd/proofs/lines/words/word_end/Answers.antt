use Rattle.ipx_cmd.proofs.bytes.FirstThatPasses.{is_position}
use Rattle.ipx_cmd.specs.Words.{is_blank}
use Rattle.ipx_cmd.proofs.lines.words.word_end.Goals as goal

pub returns : goal.returns
returns c = is_position is_blank c.args.text.now c.memchr2.result c.memchr2.ensures
