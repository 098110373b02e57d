use Rattle.std.proofs.Common.{ℕ, refl, [], ◌∷◌, None, arith}
use Rattle.std.specs.List.{flat_map}
use Rattle.ipx_router.specs.inside.Envelope.{entries_in, routes_to_all}
use Rattle.ipx_router.specs.inside.Ended.{by_route, dead_route, ended_on}
use Rattle.ipx_router.specs.declared.route_offer.RouteOffer.{RouteOffer}
use Rattle.ipx_router.specs.Numbers.{entries_a_page}
use Rattle.ipx_router.specs.Told.{by_network, network_before}
use Rattle.ipx_router.proofs.sending.PageByPage.{pays_rest}
use Rattle.ipx_router.proofs.ended.EndedRises.{routes_in_order}
use Rattle.ipx_router.proofs.ended.EndedPageByPage.{begun_fits, begun_pays, among}
use Rattle.ipx_router.proofs.sending.OneAfterAnother.{pays_then, still_fits, page_fits}
use Rattle.ipx_router.proofs.withdrawing.ended.broadcast_ended_with.Goals as goal

pub add_item-requires : goal.add_item-requires
add_item-requires c =
    let a = c.args in
    let all = λ (j : ℕ). by_network (a.entry ∷ flat_map (ended_on j) a.ended.now) in (
      omega arith,
      (
        omega arith,
        (
          omega arith,
          λ full.
              page_fits entries_a_page (entries_in c.routes_to_all-envelope.result) c.add_ended_before-rest.new.page.items a.entry
              (among by_route network_before dead_route (λ (o : RouteOffer). o.port) c.routes_to_all-envelope.result.port None [] c.add_ended_before-rest.result.now) (omega arith) full
              (still_fits c.requires.room
              (begun_pays entries_a_page entries_in all (routes_to_all a.ports.now a.number) c.routes_to_all-envelope.ensures c.new-page.ensures refl (c.add_ended_before-rest.ensures.pays []))),
        ),
      ),
    )

pub add_ended_before-rest-requires : goal.add_ended_before-rest-requires
add_ended_before-rest-requires c =
    let a = c.args in
    let all = λ (j : ℕ). by_network (a.entry ∷ flat_map (ended_on j) a.ended.now) in (omega arith, (omega arith, (omega arith, (routes_in_order, (c.requires.ascends, ([], begun_fits entries_a_page entries_in all (routes_to_all a.ports.now a.number) c.routes_to_all-envelope.ensures c.new-page.ensures refl c.requires.room))))))

pub add_ended_before-rest-requires-2 : goal.add_ended_before-rest-requires-2
add_ended_before-rest-requires-2 c =
    let a = c.args in
    let all = λ (j : ℕ). by_network (a.entry ∷ flat_map (ended_on j) a.ended.now) in (
      omega arith,
      (
        omega arith,
        (
          omega arith,
          (
            routes_in_order,
            (
              c.add_ended_before-rest.ensures.ascends,
              (
                [],
                still_fits c.requires.room
                    (pays_then
                    (begun_pays entries_a_page entries_in all (routes_to_all a.ports.now a.number) c.routes_to_all-envelope.ensures c.new-page.ensures refl (c.add_ended_before-rest.ensures.pays []))
                    (c.add_item.ensures (among by_route network_before dead_route (λ (o : RouteOffer). o.port) c.routes_to_all-envelope.result.port None [] c.add_ended_before-rest.result.now))),
              ),
            ),
          ),
        ),
      ),
    )

pub send_rest-requires : goal.send_rest-requires
send_rest-requires c =
    let a = c.args in
    let all = λ (j : ℕ). by_network (a.entry ∷ flat_map (ended_on j) a.ended.now) in (
      omega arith,
      (
        omega arith,
        still_fits c.requires.room
            (pays_then
            (begun_pays entries_a_page entries_in all (routes_to_all a.ports.now a.number) c.routes_to_all-envelope.ensures c.new-page.ensures refl (c.add_ended_before-rest.ensures.pays []))
            (pays_then (c.add_item.ensures (among by_route network_before dead_route (λ (o : RouteOffer). o.port) c.routes_to_all-envelope.result.port None [] c.add_ended_before-rest.result.now)) (c.add_ended_before-rest-2.ensures.pays []))),
      ),
    )

pub returns : goal.returns
returns c =
    let a = c.args in
    let all = λ (j : ℕ). by_network (a.entry ∷ flat_map (ended_on j) a.ended.now) in
    pays_rest
    (pays_then
    (begun_pays entries_a_page entries_in all (routes_to_all a.ports.now a.number) c.routes_to_all-envelope.ensures c.new-page.ensures refl (c.add_ended_before-rest.ensures.pays []))
    (pays_then (c.add_item.ensures (among by_route network_before dead_route (λ (o : RouteOffer). o.port) c.routes_to_all-envelope.result.port None [] c.add_ended_before-rest.result.now)) (c.add_ended_before-rest-2.ensures.pays [])))
    c.send_rest.ensures
