use Rattle.std.proofs.Common.{◌∙◌, sym, ap, subst, length, ◌==◌, ◌≤◌, ℕ}
use Rattle.ipx_table.proofs.Pairs.{length-pairs}
use Rattle.ipx_table.proofs.slotted.Slotted.is_full.Goals as goal

pub returns-clause-value : goal.returns-clause-value
returns-clause-value g c =
    c.is_full.ensures.value
    ∙ ap (λ n. n == g.row.CAP) (sym (length-pairs c.self.inside.offers.items c.self.inside.slots.items c.self.invariant) ∙ ap length c.self.view_is)

pub returns-clause-fits : goal.returns-clause-fits
returns-clause-fits g c =
    subst (λ (n : ℕ). n ≤ g.row.CAP) (sym (length-pairs c.self.inside.offers.items c.self.inside.slots.items c.self.invariant) ∙ ap length c.self.view_is) c.is_full.ensures.fits
