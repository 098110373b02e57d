use Rattle.std.proofs.Common.{sym, ◌∙◌}
use Rattle.ipx_settings.specs.Cutting.{dot}
use Rattle.ipx_settings.proofs.Cuts.{more_labels, no_labels, last_label}
use Rattle.ipx_settings.proofs.names.are_labels.Goals as goal

pub loop-part-preserved : goal.loop-part-preserved
loop-part-preserved c =
    c.loop-part.invariant
    ∙ more_labels dot c.loop-part.rest.now c.in-Some.part.now c.in-Some.more.now c.in-Some.ensures.parts (sym c.is_label.ensures ∙ c.if-is_label.true)

pub returns-else-is_label : goal.returns-else-is_label
returns-else-is_label c =
    sym (c.loop-part.invariant
    ∙ no_labels dot c.loop-part.rest.now c.in-Some.part.now c.in-Some.more.now c.in-Some.ensures.parts (sym c.is_label.ensures ∙ c.if-is_label.false))

pub returns-in-None : goal.returns-in-None
returns-in-None c = c.is_last.ensures ∙ sym (c.loop-part.invariant ∙ last_label dot c.loop-part.rest.now c.in-None.ensures.parts)
