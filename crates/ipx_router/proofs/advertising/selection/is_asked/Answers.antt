use Rattle.std.proofs.Common.{sym, ◌∙◌}
use Rattle.ipx_router.specs.inside.Selection.{asks_for}
use Rattle.ipx_router.proofs.telling.SentOfTold.{passes_there, none_passes_yet}
use Rattle.ipx_router.proofs.advertising.selection.is_asked.Goals as goal

pub returns-then-asks_for : goal.returns-then-asks_for
returns-then-asks_for c =
    sym (passes_there (λ w. asks_for w c.args.entry) c.args.request.now.entries c.loop-k.k c.entry.result c.entry.ensures (sym c.asks_for.ensures ∙ c.if-asks_for.true))

pub loop-k-preserved : goal.loop-k-preserved
loop-k-preserved c =
    none_passes_yet (λ w. asks_for w c.args.entry) c.args.request.now.entries c.loop-k.k c.entry.result c.entry.ensures c.loop-k.invariant
    (sym c.asks_for.ensures ∙ c.if-asks_for.false)
