-- The tables of all routers: whether their routes are of real ways, and whether they are right.
use Rattle.std.specs.Prelude.{◌≡◌, ℕ, ◌<◌, List, length, Option}
use Rattle.std.specs.List.{AllByRecursion}
use Rattle.std.specs.Option.{option_map}
use Rattle.ipx_wire.specs.declared.network.Network.{Network}
use Rattle.ipx_router.specs.Facts.{routes_held, services_held, offers}
use Rattle.ipx_router.specs.History.{History}
use Rattle.ipx_router.specs.Outgoing.{route_to}
use Rattle.ipx_router.specs.declared.route_offer.RouteOffer.{RouteOffer}
use Rattle.ipx_router.specs.declared.service_offer.ServiceOffer.{ServiceOffer}
use Rattle.ipx_internet.specs.Internet.{Internet, ports_of}
use Rattle.ipx_internet.specs.Queue.{history_of}
use Rattle.ipx_laws.specs.Least.{least_route, way_of}
use Rattle.ipx_laws.specs.Real.{IsReal}

module _ (net : Internet) (most_routes : ℕ) (histories : List History) where
  -- the routes that a router holds
  abbrev pub routes_of : ℕ → List RouteOffer
  routes_of router = offers (routes_held (ports_of net router) most_routes (history_of histories router))

  -- the route that it holds to a network
  abbrev pub route_of : ℕ → Network → Option RouteOffer
  route_of router network = route_to (routes_of router) network.0

  module _ (up : ℕ → List ℕ) where
    -- where those ports of each router are up, every route is of a real way
    abbrev pub AreReal : Type 0
    AreReal = (router : ℕ) → router < length net → AllByRecursion (IsReal net up router) (routes_of router)

    -- a router has to a network the route of its least way, or none where it should have none
    abbrev pub IsRight : ℕ → Network → Type 0
    IsRight router network = option_map way_of (route_of router network) ≡ least_route net up router network

    -- and every router has to each network
    abbrev pub AreRight : Type 0
    AreRight = (router : ℕ) (network : Network) → router < length net → IsRight router network

-- the services that a router holds
abbrev pub services_of : Internet → ℕ → List History → ℕ → List ServiceOffer
services_of net most_services histories router = offers (services_held (ports_of net router) most_services (history_of histories router))
