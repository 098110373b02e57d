use Rattle.std.proofs.Common.{sym, ◌<◌, ap, ◌∙◌, arith, length, slice_get}
use Rattle.ipx_internet.specs.Traced.{TracedTree}
use Rattle.ipx_internet.proofs.trace.Trace.get.Goals as goal
use Rattle.ipx_internet.proofs.trees.OutcomeOfEachReception.{as_many, told_at}

pub get-lent-requires : goal.get-lent-requires
get-lent-requires c =
    let l = c.self.inside.listing in
    let same = as_many l.copies l.outcomes c.self.invariant in
    let seen = ap (λ (t : TracedTree). length t.receptions) c.self.view_is in
    let within = c.requires in
    omega (arith, same, seen, within)

pub outcome-requires : goal.outcome-requires
outcome-requires c =
    let l = c.self.inside.listing in
    let both = c.self.invariant in
    let same = as_many l.copies l.outcomes c.self.invariant in
    let seen = ap (λ (t : TracedTree). length t.receptions) c.self.view_is in
    let within = c.requires in
    omega (arith, both, same, seen, within)

pub returns : goal.returns
returns c =
    let l = c.self.inside.listing in
    let same = as_many l.copies l.outcomes c.self.invariant in
    let seen = ap (λ (t : TracedTree). length t.receptions) c.self.view_is in
    let within = c.requires in
    let here : c.args.k < length l.copies = omega (arith, same, seen, within) in
    ap (λ (t : TracedTree). slice_get t.receptions c.args.k) (sym c.self.view_is)
    ∙ told_at l.copies l.outcomes c.args.k _ c.outcome.result here c.get-lent.ensures c.outcome.ensures
