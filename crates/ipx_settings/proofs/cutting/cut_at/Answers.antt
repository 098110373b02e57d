use Rattle.std.proofs.Common.{sym, ◌∙◌}
use Rattle.ipx_settings.proofs.Cuts.{cut_is}
use Rattle.ipx_settings.proofs.cutting.cut_at.Goals as goal

pub returns-in-Some-clause-parts : goal.returns-in-Some-clause-parts
returns-in-Some-clause-parts c =
    cut_is c.args.byte c.args.text.now c.split_at.result.0.now c.split_at.result.1.now c.split_at-in-Some.result.1.now c.in-Some.place
    (sym c.place_of.ensures ∙ c.in-Some.is) c.split_at.ensures.front c.split_at.ensures.back c.split_at-in-Some.ensures.back
