use Rattle.std.proofs.Common.{rules, false, sym, ap, List, [], arith}
use Rattle.std.specs.List.{flat_map}
use Rattle.ipx_wire.specs.declared.service.Service.{Service}
use Rattle.ipx_router.specs.Numbers.{services_a_page}
use Rattle.ipx_router.specs.inside.Envelope.{services_in}
use Rattle.ipx_router.specs.inside.Owed.{owed}
use Rattle.ipx_router.specs.inside.Selection.{service_selected_by}
use Rattle.ipx_router.proofs.sending.OneAfterAnother.{pays_same, still_fits}
use Rattle.ipx_router.proofs.sending.PagesFilledFirst.{filled_pays}
use Rattle.ipx_router.proofs.sending.RoomForServices.{next_fits}
use Rattle.ipx_router.proofs.advertising.told.send_services.Goals as goal

pub loop-count-init : goal.loop-count-init
loop-count-init g c =
    let a = c.args in (
      pays_same a.outbox.now (ap (λ (ss : List Service). owed services_a_page (services_in false a.envelope) [] (flat_map (service_selected_by a.selection) ss)) (sym c.new-services.ensures)),
      omega arith,
      λ less. absurd (omega (arith, less)),
    )

pub append_services-count-requires-clause-places : goal.append_services-count-requires-clause-places
append_services-count-requires-clause-places g c =
    let left = flat_map (service_selected_by c.loop-count.selected.selection) c.loop-count.selected.services in
    (next_fits c.args.envelope left (search rules) (search rules) (still_fits c.requires.room c.loop-count.invariant.0)).0

pub append_services-count-requires-clause-spare : goal.append_services-count-requires-clause-spare
append_services-count-requires-clause-spare g c =
    let left = flat_map (service_selected_by c.loop-count.selected.selection) c.loop-count.selected.services in
    (next_fits c.args.envelope left (search rules) (search rules) (still_fits c.requires.room c.loop-count.invariant.0)).1

pub loop-count-preserved : goal.loop-count-preserved
loop-count-preserved g c =
    let sends = c.append_services-count.ensures.sends in
    let counted = sends.counted in
    let few = c.append_services-count.ensures.few in (
      filled_pays services_a_page (services_in false c.args.envelope) (omega arith) _ _ sends.services _ sends.whole (omega (arith, counted, few))
          (λ less. c.append_services-count.ensures.last (omega (arith, counted, less))) c.loop-count.invariant.0 sends.appends,
      few,
      c.append_services-count.ensures.last,
    )
