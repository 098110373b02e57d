use Rattle.std.proofs.Common.{◌≡◌, drop, List, length}
use Rattle.std.specs.List.{prefix_len}
use Rattle.ipx_table.specs.Stands.{Ascends}
use Rattle.ipx_router.specs.inside.Ended.{ends_before, lent}
use Rattle.ipx_router.specs.inside.Owed.{Pays, owed}
use Rattle.ipx_router.proofs.ended.EndedPageByPage.{among}
use Rattle.ipx_router.proofs.withdrawing.ended.add_ended_before.Given as goal

abbrev pub invariant-loop-offer : goal.invariant-loop-offer
invariant-loop-offer g l =
    let x = g.X.Item in
    record {
      pays : (later : List g.row.X.Denot) → Pays l.initial.outbox l.outbox
          (owed g.row.PAGE (x.packet l.envelope) l.initial.page.items (among x.by_key x.comes_before x.ended x.port l.envelope.port (lent l.waiting) later l.ended))
          (owed g.row.PAGE (x.packet l.envelope) l.page.items (among x.by_key x.comes_before x.ended x.port l.envelope.port (lent l.waiting) later l.rest));
      left : drop (prefix_len (ends_before x.comes_before x.ended (lent l.waiting)) l.rest) l.rest ≡ drop (prefix_len (ends_before x.comes_before x.ended (lent l.waiting)) l.ended) l.ended;
      ascends : Ascends x.by_key l.rest;
    }

abbrev pub decreases-loop-offer : goal.decreases-loop-offer
decreases-loop-offer g l = length l.rest
