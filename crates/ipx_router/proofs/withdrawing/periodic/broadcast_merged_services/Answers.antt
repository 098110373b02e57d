use Rattle.std.proofs.Common.{ℕ, false, sym, ap, ◌∙◌, [], List, arith}
use Rattle.std.specs.List.{flat_map}
use Rattle.ipx_wire.specs.declared.service.Service.{Service}
use Rattle.ipx_router.specs.inside.Envelope.{services_in, services_to_all}
use Rattle.ipx_router.specs.inside.Ended.{service_ended_on}
use Rattle.ipx_router.specs.Facts.{offers}
use Rattle.ipx_router.specs.Numbers.{services_a_page}
use Rattle.ipx_router.specs.Sorted.{put_all}
use Rattle.ipx_router.specs.Told.{name_before, told_services}
use Rattle.ipx_router.proofs.ended.EndedRises.{services_in_order, services_with}
use Rattle.ipx_router.proofs.ended.EndedPageByPage.{begun_pays, item_fits, item_page_fits, item_pays, rest_fits, last_fits, last_sent}
use Rattle.ipx_router.proofs.sending.OneAfterAnother.{pays_none}
use Rattle.ipx_router.proofs.withdrawing.periodic.broadcast_merged_services.Goals as goal

pub loop-service-init : goal.loop-service-init
loop-service-init g c =
    let a = c.args in
    let services = offers a.table.now.records in
    let ended = flat_map (service_ended_on a.number) a.ended_services.now in
    let all = told_services services a.number in
    record {
      goes = tt;
      ends = tt;
      pays = begun_pays services_a_page (services_in false) (λ (j : ℕ). put_all name_before c.into_iter-service-iterator.result (flat_map (service_ended_on j) a.ended_services.now)) (services_to_all a.ports.now a.number) c.services_to_all-envelope.ensures c.new-page.ensures
          (services_with services a.number ended
          ∙ ap (λ (es : List Service). put_all name_before es ended) (sym (c.into_iter-service-iterator.ensures.into_iter_gives ∙ c.new-service-items.ensures)))
          (pays_none a.outbox.now _);
      ascends = c.requires.ascends;
    }

pub add_ended_before-rest-requires : goal.add_ended_before-rest-requires
add_ended_before-rest-requires g c =
    let a = c.args in
    let l = c.loop-service in
    let left = c.next.new.self in (
      omega arith,
      (
        omega arith,
        (
          omega arith,
          (
            services_in_order,
            (
              c.loop-service.invariant.ascends,
              (
                left,
                item_fits services_a_page (services_in false c.services_to_all-envelope.result) name_before
                    l.page.items l.service-iterator (flat_map (service_ended_on c.services_to_all-envelope.result.port) l.rest.now) l.invariant.pays
                    c.in-Some.service left c.in-Some.ensures.steps c.requires.room,
              ),
            ),
          ),
        ),
      ),
    )

pub add_item-requires : goal.add_item-requires
add_item-requires g c =
    let a = c.args in
    let l = c.loop-service in
    let left = c.next.new.self in
    let added = c.add_ended_before-rest in (
      omega arith,
      (
        omega arith,
        (
          omega arith,
          λ full.
              item_page_fits services_a_page (services_in false c.services_to_all-envelope.result) name_before
              l.page.items l.service-iterator (flat_map (service_ended_on c.services_to_all-envelope.result.port) l.rest.now) l.invariant.pays
              c.in-Some.service left c.in-Some.ensures.steps
              added.new.page.items (flat_map (service_ended_on c.services_to_all-envelope.result.port) added.result.now) (added.ensures.pays left) (omega arith) c.requires.room full,
        ),
      ),
    )

pub loop-service-preserved : goal.loop-service-preserved
loop-service-preserved g c =
    let a = c.args in
    let l = c.loop-service in
    let left = c.next.new.self in
    let added = c.add_ended_before-rest in
    let rest = flat_map (service_ended_on c.services_to_all-envelope.result.port) added.result.now in
    record {
      goes = tt;
      ends = tt;
      pays = item_pays services_a_page (services_in false c.services_to_all-envelope.result) name_before
          l.page.items l.service-iterator (flat_map (service_ended_on c.services_to_all-envelope.result.port) l.rest.now) l.invariant.pays
          c.in-Some.service left c.in-Some.ensures.steps
          added.new.page.items rest (added.ensures.pays left) c.add_item.new.page.items (c.add_item.ensures (put_all name_before left rest));
      ascends = added.ensures.ascends;
    }

pub add_ended_before-rest-requires-2 : goal.add_ended_before-rest-requires-2
add_ended_before-rest-requires-2 g c =
    let a = c.args in
    let l = c.loop-service in (
      omega arith,
      (
        omega arith,
        (
          omega arith,
          (
            services_in_order,
            (
              c.loop-service.invariant.ascends,
              (
                [],
                rest_fits services_a_page (services_in false c.services_to_all-envelope.result) name_before
                    l.page.items l.service-iterator (flat_map (service_ended_on c.services_to_all-envelope.result.port) l.rest.now) l.invariant.pays
                    c.in-None.ensures.steps.0 c.requires.room,
              ),
            ),
          ),
        ),
      ),
    )

pub send_rest-requires : goal.send_rest-requires
send_rest-requires g c =
    let a = c.args in
    let l = c.loop-service in (
      omega arith,
      (
        omega arith,
        last_fits services_a_page (services_in false c.services_to_all-envelope.result) name_before
            l.page.items l.service-iterator (flat_map (service_ended_on c.services_to_all-envelope.result.port) l.rest.now) l.invariant.pays
            c.in-None.ensures.steps.0 c.add_ended_before-rest-2.new.page.items (c.add_ended_before-rest-2.ensures.pays []) c.requires.room,
      ),
    )

pub returns : goal.returns
returns g c =
    let a = c.args in
    let l = c.loop-service in
    last_sent services_a_page (services_in false c.services_to_all-envelope.result) name_before
    l.page.items l.service-iterator (flat_map (service_ended_on c.services_to_all-envelope.result.port) l.rest.now) l.invariant.pays
    c.in-None.ensures.steps.0 c.add_ended_before-rest-2.new.page.items (c.add_ended_before-rest-2.ensures.pays []) c.send_rest.ensures
