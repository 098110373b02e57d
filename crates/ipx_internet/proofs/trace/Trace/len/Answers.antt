use Rattle.std.proofs.Common.{sym, ap, ◌∙◌, length}
use Rattle.ipx_internet.specs.Traced.{TracedTree}
use Rattle.ipx_internet.proofs.trace.Trace.len.Goals as goal
use Rattle.ipx_internet.proofs.trees.OutcomeOfEachReception.{as_many}

pub returns : goal.returns
returns c =
    let l = c.self.inside.listing in
    c.len.ensures ∙ sym (as_many l.copies l.outcomes c.self.invariant) ∙ ap (λ (t : TracedTree). length t.receptions) c.self.view_is
