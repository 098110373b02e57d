use Rattle.std.proofs.Common.{arith, ap, ◌∙◌, length}
use Rattle.ipx_router.specs.Stands.{State}
use Rattle.ipx_router.proofs.router.Router.routes.Goals as goal

pub returns-clause-value : goal.returns-clause-value
returns-clause-value g c = c.len.ensures.value ∙ ap (λ (v : State). length v.routes) c.self.view_is

pub returns-clause-fits : goal.returns-clause-fits
returns-clause-fits g c = c.len.ensures.fits

pub len-requires : goal.len-requires
len-requires g c = grind arith
