use Rattle.std.proofs.Common.{◌∙◌, ◌+◌, ◌∷◌, drop, sym, ap}
use Rattle.std.proofs.lemmas.List.{drop_more}
use Rattle.std.proofs.lemmas.Option.{get_or_from_slice_get, slice_get_within}
use Rattle.ipx_internet.specs.Traced.{Traced, traced}
use Rattle.ipx_internet.proofs.trace_iter.TraceIterIterator.next.Goals as goal

pub returns-clause-steps : goal.returns-clause-steps
returns-clause-steps c =
    let all = c.self.inside.trace.now.receptions in
    let given = c.self.inside.given in
    let first = traced c.get-reception.result in
    sym c.self.view_is
    ∙ drop_more all given first (slice_get_within all given first c.get-reception.ensures)
    ∙ ap (λ (t : Traced). t ∷ drop (given + 1) all) (get_or_from_slice_get all given first first c.get-reception.ensures)
