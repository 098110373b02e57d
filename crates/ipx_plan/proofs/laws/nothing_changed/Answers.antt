use Rattle.std.proofs.Common.{◌∙◌}
use Rattle.ipx_plan.proofs.Unchanged.{router_stays, origins_stay, fates_stay}
use Rattle.ipx_plan.proofs.laws.nothing_changed.Goals as goal

pub returns-clause-router : goal.returns-clause-router
returns-clause-router c = λ links plan is. is.router ∙ router_stays links

pub returns-clause-origins : goal.returns-clause-origins
returns-clause-origins c = λ links plan is k origin has. origins_stay links plan is k origin has

pub returns-clause-fates : goal.returns-clause-fates
returns-clause-fates c = λ links plan is j fate has. fates_stay links plan is j fate has
