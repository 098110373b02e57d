use Rattle.std.proofs.Common.{sym, ◌∙◌}
use Rattle.ipx_settings.specs.Words.{is_blank}
use Rattle.ipx_settings.proofs.Parts.{all_of}
use Rattle.ipx_settings.proofs.words.word_length.Goals as goal

pub returns-in-None-clause-value : goal.returns-in-None-clause-value
returns-in-None-clause-value c = all_of is_blank c.args.text.now (sym c.word_end.ensures ∙ c.in-None.is)
