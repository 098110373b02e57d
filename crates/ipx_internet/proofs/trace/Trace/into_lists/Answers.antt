use Rattle.std.proofs.Common.{ap, ◌∙◌, arith, length}
use Rattle.ipx_internet.specs.Traced.{TracedTree}
use Rattle.ipx_internet.proofs.trace.Trace.into_lists.Goals as goal
use Rattle.ipx_internet.proofs.trees.OutcomeOfEachReception.{as_many}

pub returns-clause-memory : goal.returns-clause-memory
returns-clause-memory c = c.into_lists.ensures.memory ∙ ap (λ (t : TracedTree). t.memory) c.self.view_is

pub returns-clause-receptions : goal.returns-clause-receptions
returns-clause-receptions c =
    let l = c.self.inside.listing in
    let same = as_many l.copies l.outcomes c.self.invariant in
    let seen = ap (λ (t : TracedTree). length t.receptions) c.self.view_is in
    let kept = c.into_lists.ensures.receptions in
    omega (arith, same, seen, kept)

pub returns-clause-outcomes : goal.returns-clause-outcomes
returns-clause-outcomes c =
    let l = c.self.inside.listing in
    let both = c.self.invariant in
    let same = as_many l.copies l.outcomes c.self.invariant in
    let seen = ap (λ (t : TracedTree). length t.receptions) c.self.view_is in
    let kept = c.into_lists.ensures.outcomes in
    omega (arith, both, same, seen, kept)
