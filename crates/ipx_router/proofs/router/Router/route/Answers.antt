use Rattle.std.proofs.Common.{arith, ap, ◌∙◌}
use Rattle.ipx_table.specs.Stands.{record_of}
use Rattle.ipx_router.specs.Routes.{network_order}
use Rattle.ipx_router.specs.Stands.{State}
use Rattle.ipx_router.proofs.router.Router.route.Goals as goal

pub returns-clause-value : goal.returns-clause-value
returns-clause-value g c = c.get.ensures.value ∙ ap (λ (v : State). record_of (λ r. r.network) network_order c.args.network v.routes) c.self.view_is

pub returns-clause-young : goal.returns-clause-young
returns-clause-young g c = c.get.ensures.young

pub get-requires : goal.get-requires
get-requires g c = grind arith
