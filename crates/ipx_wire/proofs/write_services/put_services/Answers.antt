use Rattle.std.proofs.Common.{◌≡◌, ◌+◌, arith, length, take, subst}
use Rattle.std.proofs.lemmas.List.{length-take}
use Rattle.std.specs.List.{flat_map}
use Rattle.ipx_wire.specs.Put.{PutsAt}
use Rattle.ipx_wire.specs.WriteServices.{IsService, service_bytes}
use Rattle.ipx_wire.specs.declared.service.Service.{Service}
use Rattle.ipx_wire.proofs.Puts.{puts_more}
use Rattle.ipx_wire.proofs.Services.{length-services, each_more}
use Rattle.ipx_wire.proofs.write_services.put_services.Goals as goal

pub loop-service-preserved : goal.loop-service-preserved
loop-service-preserved c =
    let before = take c.loop-service.service-index c.args.services.now in
    let where_next = c.loop-service.invariant.next in
    let each = c.loop-service.invariant.each in
    let place : c.loop-service.next ≡ c.args.place + length (flat_map service_bytes before) =
    omega (arith, where_next, length-services before each, length-take c.loop-service.service-index c.args.services.now) in
    let put = subst (λ (s : Service). PutsAt c.loop-service.out c.loop-service.next (service_bytes s) c.put_service.new.out) c.service-item.is c.put_service.ensures.bytes in
    let this = subst IsService c.service-item.is c.put_service.ensures.is in
    record {
      written = puts_more service_bytes c.args.services.now c.loop-service.service-index c.service-item.result _ _ _ _ _ c.loop-service-test.true
          c.loop-service.invariant.written put place;
      next = omega (arith, where_next);
      each = each_more IsService c.args.services.now c.loop-service.service-index c.service-item.result c.loop-service-test.true each this;
    }
