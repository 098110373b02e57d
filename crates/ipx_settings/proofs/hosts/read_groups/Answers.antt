use Rattle.std.proofs.Common.{sym, ◌∙◌}
use Rattle.ipx_settings.specs.Cutting.{colon}
use Rattle.ipx_settings.proofs.Cuts.{more_groups, no_more_groups, last_groups}
use Rattle.ipx_settings.proofs.hosts.read_groups.Goals as goal

pub loop-part-preserved : goal.loop-part-preserved
loop-part-preserved c =
    c.loop-part.invariant
    ∙ more_groups colon c.loop-part.rest.now c.in-Some.part.now c.in-Some.more.now c.loop-part.found c.in-Some-with_part.next c.in-Some.ensures.parts (sym c.in-Some-with_part.is ∙ c.with_part.ensures)

pub returns-in-None-with_part : goal.returns-in-None-with_part
returns-in-None-with_part c =
    sym (c.loop-part.invariant
    ∙ no_more_groups colon c.loop-part.rest.now c.in-Some.part.now c.in-Some.more.now c.loop-part.found c.in-Some.ensures.parts (sym c.in-None-with_part.is ∙ c.with_part.ensures))

pub returns-in-None : goal.returns-in-None
returns-in-None c =
    c.with_part-in-None.ensures ∙ sym (c.loop-part.invariant ∙ last_groups colon c.loop-part.rest.now c.loop-part.found c.in-None.ensures.parts)
