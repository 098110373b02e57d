use Rattle.std.proofs.Common.{sym, ap, ◌∙◌, not}
use Rattle.ipx_router.specs.Told.{is_service_told}
use Rattle.ipx_router.proofs.ended.EndedPageByPage.{left_stays, left_shrinks}
use Rattle.ipx_router.proofs.advertising.told_services.seek.Goals as goal

pub returns-then-is_service_told : goal.returns-then-is_service_told
returns-then-is_service_told c =
    sym (left_stays (λ offer. not (is_service_told c.args.number offer)) c.in-Some.offer.now c.in-Some.others.now c.loop-offer.rest.now c.in-Some.ensures.cases.0
    (ap not (sym c.is_service_told.ensures ∙ c.if-is_service_told.true)))
    ∙ c.loop-offer.invariant

pub loop-offer-preserved : goal.loop-offer-preserved
loop-offer-preserved c =
    sym (left_shrinks (λ offer. not (is_service_told c.args.number offer)) c.in-Some.offer.now c.in-Some.others.now c.loop-offer.rest.now c.in-Some.ensures.cases.0
    (ap not (sym c.is_service_told.ensures ∙ c.if-is_service_told.false)))
    ∙ c.loop-offer.invariant
