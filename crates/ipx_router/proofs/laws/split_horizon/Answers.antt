use Rattle.ipx_router.proofs.telling.LawsOfTold.{told-elsewhere, services_told-elsewhere}
use Rattle.ipx_router.proofs.laws.split_horizon.Goals as goal

pub returns-clause-routes : goal.returns-clause-routes
returns-clause-routes c = told-elsewhere

pub returns-clause-services : goal.returns-clause-services
returns-clause-services c = services_told-elsewhere
