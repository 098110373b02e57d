use Rattle.std.proofs.Common.{subst}
use Rattle.std.specs.List.{AllByRecursion}
use Rattle.ipx_wire.specs.WriteServices.{IsService}
use Rattle.ipx_wire.proofs.Services.{length-service_bytes}
use Rattle.ipx_router.proofs.advertising.told_services.proves_size.Goals as goal

pub returns : goal.returns
returns c =
    let is : IsService c.args.service.now = (subst (AllByRecursion IsService) c.from_ref.ensures.value c.in_range.ensures).0 in
    λ hops below. length-service_bytes (record c.args.service.now { hops = hops }) (record { kind = is.kind; named = is.named; address = is.address; hops = below })
