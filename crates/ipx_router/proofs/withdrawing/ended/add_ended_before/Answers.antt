use Rattle.std.proofs.Common.{List, sym, ◌∙◌, [], ◌++◌}
use Rattle.ipx_router.specs.inside.Ended.{ended_as, ends_before, lent}
use Rattle.ipx_router.specs.Outbox.{Fits}
use Rattle.ipx_router.specs.inside.Owed.{owed}
use Rattle.ipx_router.proofs.ended.EndedPageByPage.{owes_same, fits_same, among, others_ascend, offer_next, item_next, left_stays, left_shrinks, none_left}
use Rattle.ipx_router.proofs.sending.OneAfterAnother.{pays_then, still_fits}
use Rattle.ipx_router.proofs.withdrawing.ended.add_ended_before.Goals as goal

pub returns-then-not-is_next-clause-pays : goal.returns-then-not-is_next-clause-pays
returns-then-not-is_next-clause-pays g c later =
    let a = c.args in
    let x = g.X.Item in
    let l = c.loop-offer in
    owes_same g.row.PAGE (x.packet a.envelope) l.page.items
    (item_next x.by_key x.comes_before x.ended x.port a.envelope.port (lent a.waiting) c.requires.order later c.in-Some.offer.now c.in-Some.others.now l.rest.now c.in-Some.ensures.cases.0 l.invariant.ascends
    (sym c.is_next.ensures ∙ c.if-not-is_next.true))
    (l.invariant.pays later)

pub add_ended-requires : goal.add_ended-requires
add_ended-requires g c =
    let a = c.args in
    let x = g.X.Item in
    let l = c.loop-offer in
    let later = c.requires.room.0 in
    let room : (rest : List g.row.X.Denot) × Fits l.outbox (owed g.row.PAGE (x.packet a.envelope) l.page.items (ended_as x.port x.ended a.envelope.port c.in-Some.offer.now ++ rest)) = (
      among x.by_key x.comes_before x.ended x.port a.envelope.port (lent a.waiting) later c.in-Some.others.now,
      fits_same g.row.PAGE (x.packet a.envelope) l.page.items
          (offer_next x.by_key x.comes_before x.ended x.port a.envelope.port (lent a.waiting) c.requires.order later c.in-Some.offer.now c.in-Some.others.now l.rest.now c.in-Some.ensures.cases.0 l.invariant.ascends
          (sym c.is_next.ensures ∙ c.if-not-is_next.false))
          (still_fits c.requires.room.1 (l.invariant.pays later)),
    ) in
    search room

pub loop-offer-preserved : goal.loop-offer-preserved
loop-offer-preserved g c =
    let a = c.args in
    let x = g.X.Item in
    let l = c.loop-offer in
    let offer = c.in-Some.offer.now in
    let others = c.in-Some.others.now in
    record {
      pays = λ later.
          pays_then
          (owes_same g.row.PAGE (x.packet a.envelope) l.page.items
          (offer_next x.by_key x.comes_before x.ended x.port a.envelope.port (lent a.waiting) c.requires.order later offer others l.rest.now c.in-Some.ensures.cases.0 l.invariant.ascends
          (sym c.is_next.ensures ∙ c.if-not-is_next.false))
          (l.invariant.pays later))
          (c.add_ended.ensures (among x.by_key x.comes_before x.ended x.port a.envelope.port (lent a.waiting) later others));
      left = sym (left_shrinks (ends_before x.comes_before x.ended (lent a.waiting)) offer others l.rest.now c.in-Some.ensures.cases.0 (sym c.is_next.ensures ∙ c.if-not-is_next.false)) ∙ l.invariant.left;
      ascends = others_ascend x.by_key x.comes_before x.ended x.port a.envelope.port (lent a.waiting) c.requires.order [] offer others l.rest.now c.in-Some.ensures.cases.0 l.invariant.ascends;
    }

pub returns-then-not-is_next-clause-left : goal.returns-then-not-is_next-clause-left
returns-then-not-is_next-clause-left g c =
    let a = c.args in
    let x = g.X.Item in
    sym (left_stays (ends_before x.comes_before x.ended (lent a.waiting)) c.in-Some.offer.now c.in-Some.others.now c.loop-offer.rest.now c.in-Some.ensures.cases.0 (sym c.is_next.ensures ∙ c.if-not-is_next.true)) ∙ c.loop-offer.invariant.left

pub returns-clause-pays : goal.returns-clause-pays
returns-clause-pays g c later =
    let a = c.args in
    let x = g.X.Item in
    owes_same g.row.PAGE (x.packet a.envelope) c.loop-offer.page.items
    (none_left x.by_key x.comes_before x.ended x.port a.envelope.port (lent a.waiting) later c.loop-offer.rest.now c.in_default.ensures.cases) (c.loop-offer.invariant.pays later)
