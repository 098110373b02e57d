use Rattle.std.proofs.Common.{rules, refl, ◌≡◌, ◌+◌, ◌*◌, ap, ◌∙◌, subst, sym, [], ◌∷◌, length, arith}
use Rattle.std.specs.List.{flat_map}
use Rattle.ipx_wire.specs.Put.{PutsAt}
use Rattle.ipx_wire.specs.WriteServices.{service_bytes}
use Rattle.ipx_wire.specs.declared.service.Service.{Service}
use Rattle.ipx_router.specs.Told.{told_services}
use Rattle.ipx_router.specs.inside.Selection.{service_selected_by, service_sent}
use Rattle.ipx_router.proofs.sending.ServicesInPlace.{none_put, none_more, more_put, one_after, room_for_one, same_length}
use Rattle.ipx_router.proofs.telling.NextServiceSent as one
use Rattle.ipx_router.proofs.advertising.told_services.put_sent.Goals as goal

pub loop-count-init : goal.loop-count-init
loop-count-init c =
    (omega arith, c.requires.ascend, none_put (flat_map (service_selected_by c.args.selection) (told_services c.args.services.now c.args.number)) c.args.out.now)

pub put_service-requires : goal.put_service-requires
put_service-requires c =
    let s = c.in-Some.offer.now.service in
    let x = service_sent c.args.selection s in
    let before =
    none_more c.loop-count.invariant.2
    (one.first_sent c.args.number c.args.selection c.in-Some.offer.now c.in-Some.others.now c.loop-count.rest.now c.loop-count.invariant.1 c.in-Some.ensures.cases.0
    c.if-is_service_sent.ensures) in
    let size : length (service_bytes x) ≡ 64 =
    ap (λ (y : Service). length (service_bytes y)) (sym c.hops_sent.ensures.value) ∙ c.proves_size.ensures c.hops_sent.result (search rules) in
    let room = room_for_one x before (omega (arith, c.loop-count-test.true)) c.requires.room size in
    omega (arith, room, same_length before (omega (arith, room)))

pub loop-count-preserved-then-is_service_sent : goal.loop-count-preserved-then-is_service_sent
loop-count-preserved-then-is_service_sent c =
    let s = c.in-Some.offer.now.service in
    let x = service_sent c.args.selection s in
    let up = c.loop-count.invariant.1 in
    let before =
    none_more c.loop-count.invariant.2
    (one.first_sent c.args.number c.args.selection c.in-Some.offer.now c.in-Some.others.now c.loop-count.rest.now up c.in-Some.ensures.cases.0 c.if-is_service_sent.ensures) in
    let size : length (service_bytes x) ≡ 64 = ap (λ (y : Service). length (service_bytes y)) (sym c.hops_sent.ensures.value) ∙ c.put_service.ensures.size in
    let room = room_for_one x before (omega (arith, c.loop-count-test.true)) c.requires.room size in
    let puts =
    subst (λ (y : Service). PutsAt c.loop-count.out (32 + 64 * c.loop-count.count) (service_bytes y) c.put_service.new.out) c.hops_sent.ensures.value
    c.put_service.ensures.bytes in (
      omega (arith, c.loop-count-test.true),
      one.others_rise c.args.number c.args.selection c.in-Some.offer.now c.in-Some.others.now c.loop-count.rest.now up c.in-Some.ensures.cases.0,
      more_put before (x ∷ []) refl (omega (arith, room)) (one_after x puts size),
    )

pub loop-count-preserved : goal.loop-count-preserved
loop-count-preserved c =
    let up = c.loop-count.invariant.1 in (
      c.loop-count.invariant.0,
      one.others_rise c.args.number c.args.selection c.in-Some.offer.now c.in-Some.others.now c.loop-count.rest.now up c.in-Some.ensures.cases.0,
      none_more c.loop-count.invariant.2
          (one.first_not_sent c.args.number c.args.selection c.in-Some.offer.now c.in-Some.others.now c.loop-count.rest.now up c.in-Some.ensures.cases.0
          c.if-is_service_sent.ensures),
    )
