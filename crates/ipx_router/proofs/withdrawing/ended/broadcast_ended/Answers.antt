use Rattle.std.proofs.Common.{ℕ, sym, [], None, arith}
use Rattle.ipx_router.specs.Numbers.{entries_a_page}
use Rattle.ipx_router.specs.Told.{network_before}
use Rattle.ipx_router.specs.inside.Ended.{by_route, dead_route}
use Rattle.ipx_router.specs.inside.Envelope.{entries_in, routes_to_all}
use Rattle.ipx_router.specs.declared.route_offer.RouteOffer.{RouteOffer}
use Rattle.ipx_router.proofs.sending.PageByPage.{pays_rest}
use Rattle.ipx_router.proofs.ended.EndedRises.{routes_in_order, sorted-ended}
use Rattle.ipx_router.proofs.ended.EndedPageByPage.{begun_fits, begun_pays, among}
use Rattle.ipx_router.proofs.sending.OneAfterAnother.{still_fits}
use Rattle.ipx_router.proofs.withdrawing.ended.broadcast_ended.Goals as goal

pub add_ended_before-rest-requires : goal.add_ended_before-rest-requires
add_ended_before-rest-requires c =
    let a = c.args in (
      omega arith,
      (
        omega arith,
        (
          omega arith,
          (
            routes_in_order,
            (
              c.requires.ascends,
              (
                [],
                begun_fits entries_a_page entries_in (λ (j : ℕ). among by_route network_before dead_route (λ (o : RouteOffer). o.port) j None [] a.ended.now) (routes_to_all a.ports.now a.number) c.routes_to_all-envelope.ensures c.new-page.ensures
                    (sym (sorted-ended by_route network_before dead_route routes_in_order (λ (o : RouteOffer). o.port) a.number a.ended.now c.requires.ascends)) c.requires.room,
              ),
            ),
          ),
        ),
      ),
    )

pub send_rest-requires : goal.send_rest-requires
send_rest-requires c =
    let a = c.args in (
      omega arith,
      (
        omega arith,
        still_fits c.requires.room (begun_pays entries_a_page entries_in (λ (j : ℕ). among by_route network_before dead_route (λ (o : RouteOffer). o.port) j None [] a.ended.now) (routes_to_all a.ports.now a.number) c.routes_to_all-envelope.ensures c.new-page.ensures
            (sym (sorted-ended by_route network_before dead_route routes_in_order (λ (o : RouteOffer). o.port) a.number a.ended.now c.requires.ascends)) (c.add_ended_before-rest.ensures.pays [])),
      ),
    )

pub returns : goal.returns
returns c =
    let a = c.args in
    pays_rest (begun_pays entries_a_page entries_in (λ (j : ℕ). among by_route network_before dead_route (λ (o : RouteOffer). o.port) j None [] a.ended.now) (routes_to_all a.ports.now a.number) c.routes_to_all-envelope.ensures c.new-page.ensures
    (sym (sorted-ended by_route network_before dead_route routes_in_order (λ (o : RouteOffer). o.port) a.number a.ended.now c.requires.ascends)) (c.add_ended_before-rest.ensures.pays [])) c.send_rest.ensures
