use Rattle.std.proofs.Common.{◌∙◌, ap, ◌==◌, ℕ, take}
use Rattle.std.specs.List.{list_any}
use Rattle.ipx_table.specs.Stands.{is_last}
use Rattle.ipx_table.proofs.Clocks.{any-seen}
use Rattle.ipx_table.proofs.table.Table.expires.Goals as goal

pub returns : goal.returns
returns g c =
    c.has_slot.ensures
    ∙ ap (λ (slot : ℕ). list_any (λ p. p.1 == slot) (take c.self.inside.live c.self.inside.records)) c.next_slot.ensures
    ∙ any-seen c.self.inside.clock c.self.invariant.sorted.going (take c.self.inside.live c.self.inside.records) c.self.invariant.sorted.slots
    ∙ ap (λ v. list_any is_last v.records) c.self.view_is
