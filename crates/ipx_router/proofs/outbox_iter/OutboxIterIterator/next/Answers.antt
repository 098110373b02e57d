use Rattle.std.proofs.Common.{◌∙◌, ◌+◌, ◌∷◌, drop, sym, ap}
use Rattle.std.proofs.lemmas.List.{drop_more}
use Rattle.std.proofs.lemmas.Option.{get_or_from_slice_get, slice_get_within}
use Rattle.ipx_router.specs.Outbox.{lent}
use Rattle.ipx_router.specs.Relays.{Sent}
use Rattle.ipx_router.proofs.outbox_iter.OutboxIterIterator.next.Goals as goal

pub returns-clause-steps : goal.returns-clause-steps
returns-clause-steps c =
    let sent = c.self.inside.outbox.now.sent in
    let given = c.self.inside.given in
    let first = lent c.get-sent.result in
    sym c.self.view_is
    ∙ drop_more sent given first (slice_get_within sent given first c.get-sent.ensures)
    ∙ ap (λ (s : Sent). s ∷ drop (given + 1) sent) (get_or_from_slice_get sent given first first c.get-sent.ensures)
