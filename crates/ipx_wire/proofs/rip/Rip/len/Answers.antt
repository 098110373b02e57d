use Rattle.std.proofs.Common.{sym, ap, ◌∙◌, length}
use Rattle.ipx_wire.specs.Rip.{RipParts}
use Rattle.ipx_wire.proofs.Entries.{length-entries_at}
use Rattle.ipx_wire.proofs.rip.Rip.len.Goals as goal

pub returns-clause-value : goal.returns-clause-value
returns-clause-value c =
    sym (length-entries_at c.self.inside.count c.self.inside.body.now) ∙ ap (λ (r : RipParts). length r.entries) c.self.view_is
