use Rattle.std.proofs.Common.{◌∙◌, sym, ap, length}
use Rattle.ipx_table.proofs.Pairs.{length-pairs}
use Rattle.ipx_table.proofs.slotted.Slotted.len.Goals as goal

pub returns-clause-value : goal.returns-clause-value
returns-clause-value g c =
    c.len.ensures.value ∙ sym (length-pairs c.self.inside.offers.items c.self.inside.slots.items c.self.invariant) ∙ ap length c.self.view_is
