use Rattle.std.proofs.Common.{false, ℕ, sym, [], None, arith}
use Rattle.ipx_router.specs.Numbers.{services_a_page}
use Rattle.ipx_router.specs.Told.{name_before}
use Rattle.ipx_router.specs.inside.Ended.{by_service, dead_offer}
use Rattle.ipx_router.specs.inside.Envelope.{services_in, services_to_all}
use Rattle.ipx_router.specs.declared.service_offer.ServiceOffer.{ServiceOffer}
use Rattle.ipx_router.proofs.sending.PageByPage.{pays_rest}
use Rattle.ipx_router.proofs.ended.EndedRises.{services_in_order, sorted-ended}
use Rattle.ipx_router.proofs.ended.EndedPageByPage.{begun_fits, begun_pays, among}
use Rattle.ipx_router.proofs.sending.OneAfterAnother.{still_fits}
use Rattle.ipx_router.proofs.withdrawing.ended.broadcast_ended_services.Goals as goal

pub add_ended_before-rest-requires : goal.add_ended_before-rest-requires
add_ended_before-rest-requires c =
    let a = c.args in (
      omega arith,
      (
        omega arith,
        (
          omega arith,
          (
            services_in_order,
            (
              c.requires.ascends,
              (
                [],
                begun_fits services_a_page (services_in false) (λ (j : ℕ). among by_service name_before dead_offer (λ (o : ServiceOffer). o.port) j None [] a.ended_services.now) (services_to_all a.ports.now a.number) c.services_to_all-envelope.ensures c.new-page.ensures
                    (sym (sorted-ended by_service name_before dead_offer services_in_order (λ (o : ServiceOffer). o.port) a.number a.ended_services.now c.requires.ascends)) c.requires.room,
              ),
            ),
          ),
        ),
      ),
    )

pub send_rest-requires : goal.send_rest-requires
send_rest-requires c =
    let a = c.args in (
      omega arith,
      (
        omega arith,
        still_fits c.requires.room (begun_pays services_a_page (services_in false) (λ (j : ℕ). among by_service name_before dead_offer (λ (o : ServiceOffer). o.port) j None [] a.ended_services.now) (services_to_all a.ports.now a.number) c.services_to_all-envelope.ensures c.new-page.ensures
            (sym (sorted-ended by_service name_before dead_offer services_in_order (λ (o : ServiceOffer). o.port) a.number a.ended_services.now c.requires.ascends)) (c.add_ended_before-rest.ensures.pays [])),
      ),
    )

pub returns : goal.returns
returns c =
    let a = c.args in
    pays_rest (begun_pays services_a_page (services_in false) (λ (j : ℕ). among by_service name_before dead_offer (λ (o : ServiceOffer). o.port) j None [] a.ended_services.now) (services_to_all a.ports.now a.number) c.services_to_all-envelope.ensures c.new-page.ensures
    (sym (sorted-ended by_service name_before dead_offer services_in_order (λ (o : ServiceOffer). o.port) a.number a.ended_services.now c.requires.ascends)) (c.add_ended_before-rest.ensures.pays [])) c.send_rest.ensures
