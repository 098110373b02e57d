use Rattle.std.proofs.Common.{◌≡◌, ◌<◌, true, ◌∷◌, sym, ap, ◌∙◌, subst, ◌++◌, take, arith}
use Rattle.std.proofs.lemmas.List.{length-set}
use Rattle.ipx_wire.specs.declared.rip.RipEntry.{RipEntry}
use Rattle.ipx_router.specs.Told.{entry_of, told_at, is_route_told}
use Rattle.ipx_router.specs.inside.Ended.{RoutesAscend}
use Rattle.ipx_router.specs.inside.ToldRoutes.{routes_left}
use Rattle.ipx_router.proofs.sending.PagesFilledFirst.{one_placed}
use Rattle.ipx_router.proofs.telling.NextRouteTold.{told_first}
use Rattle.ipx_router.proofs.advertising.told_routes.put_run.Goals as goal

pub loop-next-preserved-then-is_route_told : goal.loop-next-preserved-then-is_route_told
loop-next-preserved-then-is_route_told c =
    let a = c.args in
    let l = c.loop-next in
    let route = c.in-Some.route.now in
    let others = c.in-Some.others.now in
    let is : l.rest.now ≡ route ∷ others = c.in-Some.ensures.cases.0 in
    let up : RoutesAscend (route ∷ others) = subst RoutesAscend is l.invariant.ascends in
    let told : is_route_told a.number route ≡ true = sym c.is_route_told.ensures ∙ c.if-is_route_told.true in
    let entry = c.told_at.ensures ∙ ap (told_at a.cost) c.entry_of.ensures in
    let room : l.next < 50 = omega (arith, c.loop-next-test.true) in
    let before : route.network.0 < a.limit = omega (arith, c.if-from-limit.false, c.from.ensures) in
    record {
      more = omega (arith, l.invariant.more);
      few = omega (arith, room);
      size = length-set l.page l.next c.told_at.result ∙ l.invariant.size;
      ascends = up.1;
      entries = λ waiting limits.
          one_placed l.page l.next (take a.count a.page.now ++ routes_left a.number a.cost waiting a.routes.now)
          (routes_left a.number a.cost waiting l.rest.now) (routes_left a.number a.cost waiting others) c.told_at.result
          (l.invariant.entries waiting limits)
          (ap (routes_left a.number a.cost waiting) is
          ∙ told_first a.number a.cost waiting route others up told (limits (told_at a.cost (entry_of route)) before)
          ∙ ap (λ (e : RipEntry). e ∷ routes_left a.number a.cost waiting others) (sym entry))
          (omega (arith, room, l.invariant.size));
    }
