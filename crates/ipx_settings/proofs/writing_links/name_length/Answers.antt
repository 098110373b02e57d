use Rattle.std.proofs.Common.{sym, ◌∙◌, ◌==◌}
use Rattle.ipx_settings.proofs.Parts.{all_of}
use Rattle.ipx_settings.proofs.writing_links.name_length.Goals as goal

pub returns-in-None-clause-value : goal.returns-in-None-clause-value
returns-in-None-clause-value c = all_of (λ byte. byte == 0) c.args.bytes.now (sym c.zero_at.ensures ∙ c.in-None.is)
