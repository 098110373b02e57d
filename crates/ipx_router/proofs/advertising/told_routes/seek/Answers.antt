use Rattle.std.proofs.Common.{sym, ap, ◌∙◌, not}
use Rattle.ipx_router.specs.Told.{is_route_told}
use Rattle.ipx_router.proofs.ended.EndedPageByPage.{left_stays, left_shrinks}
use Rattle.ipx_router.proofs.advertising.told_routes.seek.Goals as goal

pub returns-then-is_route_told : goal.returns-then-is_route_told
returns-then-is_route_told c =
    sym (left_stays (λ route. not (is_route_told c.args.number route)) c.in-Some.route.now c.in-Some.others.now c.loop-route.rest.now c.in-Some.ensures.cases.0
    (ap not (sym c.is_route_told.ensures ∙ c.if-is_route_told.true)))
    ∙ c.loop-route.invariant

pub loop-route-preserved : goal.loop-route-preserved
loop-route-preserved c =
    sym (left_shrinks (λ route. not (is_route_told c.args.number route)) c.in-Some.route.now c.in-Some.others.now c.loop-route.rest.now c.in-Some.ensures.cases.0
    (ap not (sym c.is_route_told.ensures ∙ c.if-is_route_told.false)))
    ∙ c.loop-route.invariant
