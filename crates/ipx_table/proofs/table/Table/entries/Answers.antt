use Rattle.std.proofs.Common.{sym, subst, List, ◌<◌, take}
use Rattle.std.specs.List.{AllByRecursion}
use Rattle.ipx_table.specs.Alive.{lifetime}
use Rattle.ipx_table.specs.declared.held.Held.{Held}
use Rattle.ipx_table.proofs.Clocks.{young-seen}
use Rattle.ipx_table.proofs.table.Table.entries.Goals as goal

pub returns-clause-young : goal.returns-clause-young
returns-clause-young g c =
    subst (λ (hs : List (Held g.row.O.Denot)). AllByRecursion (λ h. h.age < lifetime) hs) (sym c.entries.ensures)
    (young-seen c.self.inside.clock (take c.self.inside.live c.self.inside.records))
