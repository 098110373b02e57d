use Rattle.std.proofs.Common.{sym, ◌∙◌}
use Rattle.ipx_cmd.proofs.bytes.PartsThatAreWords.{words-next, words-none}
use Rattle.ipx_cmd.proofs.lines.words.first_word.Goals as goal

pub returns-in-Some : goal.returns-in-Some
returns-in-Some c =
    rw (c.cut_word.ensures.word, c.cut_word.ensures.rest)
    (words-next c.args.line.now c.split_at.result.1.now c.in-Some.start (sym c.word_start.ensures ∙ c.in-Some.is) c.split_at.ensures.back)

pub returns-in-None : goal.returns-in-None
returns-in-None c = words-none c.args.line.now (sym c.word_start.ensures ∙ c.in-None.is)
