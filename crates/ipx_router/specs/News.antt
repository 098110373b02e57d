-- `news`: what a router broadcasts of a change at once (IPX Router Specification, immediate broadcasts), on each port but that of
-- the later offer or, where there is none, of the earlier.
use Rattle.std.specs.Prelude.{ℕ, ◌==◌, ◌&&◌, Bool, if◌then◌else◌, List, [], ◌∷◌, None, Some}
use Rattle.std.specs.List.{flat_map}
use Rattle.ipx_wire.specs.Name.{same_name}
use Rattle.ipx_wire.specs.declared.address.Address.{Address}
use Rattle.ipx_wire.specs.declared.rip.RipEntry.{RipEntry}
use Rattle.ipx_wire.specs.declared.service.Service.{Service}
use Rattle.ipx_router.specs.Changes.{Change, changes}
use Rattle.ipx_router.specs.Port.{Port, port_at, same_node}
use Rattle.ipx_router.specs.Routes.{network_order}
use Rattle.ipx_router.specs.Services.{service_order}
use Rattle.ipx_router.specs.Told.{is_reached_on, told_at, dead, farther, dead_service, entry_of}
use Rattle.ipx_router.specs.declared.route_offer.RouteOffer.{RouteOffer}
use Rattle.ipx_router.specs.declared.service_offer.ServiceOffer.{ServiceOffer}

-- ---- routes

-- two offers of routes are the same, field by field
abbrev pub same_route : RouteOffer → RouteOffer → Bool
same_route a b =
    (a.network.0 == b.network.0) && (a.hops == b.hops) && (a.ticks == b.ticks) && (a.port == b.port) && same_node a.node b.node

-- a route as it is advertised on a port: unreachable, if the next router can't reach its network
abbrev pub route_now : Port → RouteOffer → RipEntry
route_now port route = if is_reached_on route.hops then told_at port.cost (entry_of route) else dead (entry_of route)

-- what is advertised of a change on a port: the route as it is now or, if it ended, as unreachable; nothing where it was learned
abbrev pub route_told : List Port → ℕ → Change RouteOffer → List RipEntry
route_told ports number change =
    elim change.after [
      | Some route ↦ if route.port == number then [] else route_now (port_at ports number) route ∷ []
      | None ↦ elim change.before [
        | Some route ↦ if route.port == number then [] else dead (entry_of route) ∷ []
        | None ↦ []
      ]
    ]

-- what is advertised on a port of all changes of routes, by network
abbrev pub news : List Port → List RouteOffer → List RouteOffer → ℕ → List RipEntry
news ports before after number = flat_map (route_told ports number) (changes (λ r. r.network) network_order same_route before after)

-- ---- services

-- two addresses are the same, field by field
abbrev pub same_address : Address → Address → Bool
same_address a b = (a.network.0 == b.network.0) && same_node a.node b.node && (a.socket.0 == b.socket.0)

-- two offers of services are the same, field by field
abbrev pub same_service : ServiceOffer → ServiceOffer → Bool
same_service a b =
    (a.service.kind == b.service.kind) && same_name a.service.name b.service.name && same_address a.service.address b.service.address
    && (a.service.hops == b.service.hops) && (a.port == b.port) && same_node a.node b.node

-- a service as it is advertised: unreachable, if the next router can't reach it
abbrev pub service_now : ServiceOffer → Service
service_now offer = if is_reached_on offer.service.hops then farther offer.service else dead_service offer.service

-- what is advertised of a change on a port: the service as it is now or, if it ended, as unreachable, at the address that it had
-- before the event; nothing where it was learned
abbrev pub service_told : ℕ → Change ServiceOffer → List Service
service_told number change =
    elim change.after [
      | Some offer ↦ if offer.port == number then [] else service_now offer ∷ []
      | None ↦ elim change.before [
        | Some offer ↦ if offer.port == number then [] else dead_service offer.service ∷ []
        | None ↦ []
      ]
    ]

-- what is advertised on a port of all changes of services, by type and name
abbrev pub news_services : List ServiceOffer → List ServiceOffer → ℕ → List Service
news_services before after number =
    flat_map (service_told number) (changes (λ s. (s.service.kind, s.service.name)) service_order same_service before after)
