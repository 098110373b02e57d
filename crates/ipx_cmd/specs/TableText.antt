-- What a run writes of the tables of its router.
use Rattle.std.specs.Prelude.{ℕ, List}
use Rattle.std.specs.List.{flat_map}
use Rattle.ipx_table.specs.declared.held.Held.{Held}
use Rattle.ipx_router.specs.Facts.{routes_held, services_held}
use Rattle.ipx_router.specs.History.{History}
use Rattle.ipx_router.specs.Port.{Port}
use Rattle.ipx_router.specs.declared.route_offer.RouteOffer.{RouteOffer}
use Rattle.ipx_router.specs.declared.service_offer.ServiceOffer.{ServiceOffer}
use Rattle.ipx_cmd.specs.EventText.{most_routes, most_services}
use Rattle.ipx_cmd.specs.Output.{route_text, service_text}

-- the line of a route that is held, and of a service
unfoldable pub route_held : Held RouteOffer → List ℕ
route_held held = route_text held.offer held.age

unfoldable pub service_held : Held ServiceOffer → List ℕ
service_held held = service_text held.offer held.age

-- the routes that are held after a history, by network
unfoldable pub routes_text : List Port → History → List ℕ
routes_text ports history = flat_map route_held (routes_held ports most_routes history)

-- the services that are held after a history, by type and name
unfoldable pub services_text : List Port → History → List ℕ
services_text ports history = flat_map service_held (services_held ports most_services history)
