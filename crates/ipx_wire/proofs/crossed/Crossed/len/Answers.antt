use Rattle.std.proofs.Common.{List, sym, ap, ◌∙◌, length}
use Rattle.ipx_wire.specs.declared.network.Network.{Network}
use Rattle.ipx_wire.proofs.Crossings.{length-networks_at}
use Rattle.ipx_wire.proofs.crossed.Crossed.len.Goals as goal

pub returns-clause-value : goal.returns-clause-value
returns-clause-value c =
    sym (length-networks_at c.self.inside.count c.self.inside.payload.now) ∙ ap (λ (ns : List Network). length ns) c.self.view_is
