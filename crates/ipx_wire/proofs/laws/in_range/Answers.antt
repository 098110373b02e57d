use Rattle.std.proofs.Common.{subst}
use Rattle.ipx_wire.specs.WriteServices.{IsService}
use Rattle.ipx_wire.proofs.Services.{each_more}
use Rattle.ipx_wire.proofs.laws.in_range.Goals as goal

pub loop-service-preserved : goal.loop-service-preserved
loop-service-preserved c =
    let this = subst IsService c.service-item.is c.is_in_range.ensures in
    each_more IsService c.args.services.now c.loop-service.service-index c.service-item.result c.loop-service-test.true c.loop-service.invariant this
