use Rattle.ipx_router.proofs.telling.LawsOfTold.{no_route_news, no_service_news}
use Rattle.ipx_router.proofs.laws.no_news.Goals as goal

pub returns-clause-routes : goal.returns-clause-routes
returns-clause-routes c = no_route_news

pub returns-clause-services : goal.returns-clause-services
returns-clause-services c = no_service_news
