use Rattle.std.proofs.Common.{List, sym, ap, ◌∙◌, length}
use Rattle.ipx_wire.specs.SapEntries.{sap_entry_at}
use Rattle.ipx_wire.specs.declared.sap_entries.SapEntry.{SapEntry}
use Rattle.ipx_wire.proofs.Items.{length-items}
use Rattle.ipx_wire.proofs.sap_entries.SapEntries.len.Goals as goal

pub returns-clause-value : goal.returns-clause-value
returns-clause-value c =
    sym (length-items sap_entry_at 64 c.self.inside.count c.self.inside.body.now) ∙ ap (λ (entries : List SapEntry). length entries) c.self.view_is
