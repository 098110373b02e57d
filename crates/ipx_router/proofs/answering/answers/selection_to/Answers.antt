use Rattle.ipx_router.proofs.telling.SentOfTold.{selected_asked, selected_for_all}
use Rattle.ipx_router.proofs.answering.answers.selection_to.Goals as goal

pub returns-then-entry : goal.returns-then-entry
returns-then-entry c =
    selected_for_all c.args.request.now.entries c.loop-k.k c.entry.result c.entry.ensures c.if-entry.true

pub returns : goal.returns
returns c = selected_asked c.args.request
