use Rattle.std.proofs.Common.{sym, subst}
use Rattle.ipx_router.specs.Outbox.{Fits, Appends}
use Rattle.ipx_router.proofs.sending.PagesFilledFirst.{one_packet}
use Rattle.ipx_router.proofs.advertising.told.send_filled.Goals as goal

pub send_page-requires-clause-room : goal.send_page-requires-clause-room
send_page-requires-clause-room g c =
    subst (Fits c.args.outbox.now)
    (one_packet g.X.Item.most (g.X.Item.packet c.args.envelope) c.requires.some c.args.page.now c.requires.few c.if-not-is_empty.ensures)
    c.requires.room

pub returns-then-not-is_empty : goal.returns-then-not-is_empty
returns-then-not-is_empty g c =
    subst (Appends c.args.outbox.now c.send_page.new.outbox)
    (sym (one_packet g.X.Item.most (g.X.Item.packet c.args.envelope) c.requires.some c.args.page.now c.requires.few c.if-not-is_empty.ensures))
    c.send_page.ensures
