use Rattle.std.proofs.Common.{◌∙◌, sym, ap, map}
use Rattle.std.proofs.lemmas.Slice.Zip.{firsts-zip}
use Rattle.ipx_table.proofs.slotted.Slotted.offers.Goals as goal

pub returns-clause-value : goal.returns-clause-value
returns-clause-value g c =
    c.as_slice.ensures.value ∙ sym (firsts-zip c.self.inside.offers.items c.self.inside.slots.items c.self.invariant) ∙ ap (map (λ p. p.0)) c.self.view_is
