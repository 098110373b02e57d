use Rattle.std.proofs.Common.{arith, ap, ◌∙◌}
use Rattle.ipx_table.specs.Stands.{record_of}
use Rattle.ipx_router.specs.Services.{service_order, service_reading}
use Rattle.ipx_router.specs.Stands.{State}
use Rattle.ipx_router.proofs.router.Router.service.Goals as goal

pub returns-clause-value : goal.returns-clause-value
returns-clause-value g c = c.get.ensures.value ∙ ap (λ (v : State). record_of service_reading.key service_order (c.args.kind, c.args.name.now) v.services) c.self.view_is

pub returns-clause-young : goal.returns-clause-young
returns-clause-young g c = c.get.ensures.young

pub get-requires : goal.get-requires
get-requires g c = grind arith
