-- The routes and services of a network by way of nodes that say nothing themselves.
use Rattle.std.specs.Prelude.{ℕ, ◌+◌, Bool, not, ◌==◌, ◌&&◌, nat_lt, if◌then◌else◌, List, [], ◌∷◌, take, replicate, Option, slice_get, slice_set}
use Rattle.std.specs.List.{position}
use Rattle.std.specs.Option.{option_map}
use Rattle.std.specs.Str.{bytes_eq}
use Rattle.ipx_settings.specs.Cutting.{◌>>=◌}
use Rattle.ipx_settings.specs.Statics.{route_to, service_named}
use Rattle.ipx_settings.specs.declared.expected.Expected.{Expected}
use Rattle.ipx_settings.specs.declared.statics.RouteBegun.{RouteBegun}
use Rattle.ipx_settings.specs.declared.statics.RouteBegun.TheVariants as route
use Rattle.ipx_settings.specs.declared.statics.ServiceBegun.{ServiceBegun}
use Rattle.ipx_settings.specs.declared.statics.ServiceBegun.TheVariants as service
use Rattle.ipx_settings.specs.declared.statics.StaticRoute.{StaticRoute}
use Rattle.ipx_settings.specs.declared.statics.StaticService.{StaticService}
use Rattle.ipx_configuration.specs.Clashes.{first_of, when, line_fault}
use Rattle.ipx_configuration.specs.Lines.{if_right}
use Rattle.ipx_configuration.specs.declared.fault.Fault.{Fault}
use Rattle.ipx_configuration.specs.declared.fault.Fault.TheVariants as fault
use Rattle.ipx_configuration.specs.declared.said.NetworkSetting.{NetworkSetting}
use Rattle.ipx_configuration.specs.declared.statics.RouteSaid.{RouteSaid}
use Rattle.ipx_configuration.specs.declared.statics.ServiceSaid.{ServiceSaid}
use Rattle.ipx_configuration.specs.declared.statics.StaticRouteSaid.{StaticRouteSaid}
use Rattle.ipx_configuration.specs.declared.statics.StaticRoutes.{StaticRoutes}
use Rattle.ipx_configuration.specs.declared.statics.StaticServiceSaid.{StaticServiceSaid}
use Rattle.ipx_configuration.specs.declared.statics.StaticServices.{StaticServices}

abbrev pub no_node : List ℕ
no_node = replicate 6 0

-- ---- a route

abbrev pub response_route : ℕ → ℕ → ℕ → RouteSaid
response_route network hops ticks = record { network = network; hops = hops; ticks = ticks }

abbrev pub route_at : ℕ → RouteSaid → List ℕ → StaticRouteSaid
route_at line route via = record { line = line; route = route; via = via }

abbrev pub no_route : StaticRouteSaid
no_route = route_at 0 (response_route 0 0 0) no_node

-- what its line says
abbrev pub route_said : ℕ → StaticRoute → StaticRouteSaid
route_said line it = route_at line (response_route it.network it.hops it.ticks) it.via

-- that of a line of which all words were read
abbrev pub route_in : ℕ → RouteBegun → StaticRouteSaid
route_in line (route.Whole it) = route_said line it
route_in line other = no_route

-- ---- a service

abbrev pub response_service : List ℕ → ℕ → List ℕ → ℕ → ℕ → ℕ → ServiceSaid
response_service name network node socket kind hops =
    record { name = name; network = network; node = node; socket = socket; kind = kind; hops = hops }

abbrev pub service_at : ℕ → ServiceSaid → List ℕ → StaticServiceSaid
service_at line service via = record { line = line; service = service; via = via }

abbrev pub no_service : StaticServiceSaid
no_service = service_at 0 (response_service (replicate 48 0) 0 no_node 0 0 0) no_node

-- what its line says
abbrev pub service_said : ℕ → StaticService → StaticServiceSaid
service_said line it =
    service_at line (response_service it.name it.address.network it.address.node it.address.socket it.kind it.hops) it.via

-- that of a line of which all words were read
abbrev pub service_in : ℕ → ServiceBegun → StaticServiceSaid
service_in line (service.Whole it) = service_said line it
service_in line other = no_service

-- ---- all of a network: the first so many places of memory

abbrev pub most_routes : ℕ
most_routes = 64

abbrev pub most_services : ℕ
most_services = 64

abbrev pub route_list : List StaticRouteSaid → ℕ → StaticRoutes
route_list list count = record { list = list; count = count }

abbrev pub service_list : List StaticServiceSaid → ℕ → StaticServices
service_list list count = record { list = list; count = count }

abbrev pub no_routes : StaticRoutes
no_routes = route_list (replicate 64 no_route) 0

abbrev pub no_services : StaticServices
no_services = service_list (replicate 64 no_service) 0

abbrev pub routes_in : StaticRoutes → List StaticRouteSaid
routes_in r = take r.count r.list

abbrev pub services_in : StaticServices → List StaticServiceSaid
services_in s = take s.count s.list

-- one more behind them, while there is room
abbrev pub with_route : StaticRoutes → StaticRouteSaid → StaticRoutes
with_route r it = if nat_lt r.count most_routes then route_list (slice_set r.list r.count it) (r.count + 1) else r

abbrev pub with_service : StaticServices → StaticServiceSaid → StaticServices
with_service s it = if nat_lt s.count most_services then service_list (slice_set s.list s.count it) (s.count + 1) else s

-- ---- which of them is the same

abbrev pub leads_to : ℕ → StaticRouteSaid → Bool
leads_to network it = it.route.network == network

-- the line of the first route to the network
abbrev pub first_route : ℕ → StaticRoutes → Option ℕ
first_route network r = position (leads_to network) (routes_in r) >>= λ k. option_map (λ it. it.line) (slice_get (routes_in r) k)

abbrev pub is_named : ℕ → List ℕ → StaticServiceSaid → Bool
is_named kind name it = (it.service.kind == kind) && bytes_eq it.service.name name

-- the line of the first service of the type that has the name
abbrev pub first_service : ℕ → List ℕ → StaticServices → Option ℕ
first_service kind name s =
    position (is_named kind name) (services_in s) >>= λ k. option_map (λ it. it.line) (slice_get (services_in s) k)

-- ---- the line of a route

abbrev pub more_routes : StaticRoutes → ℕ → RouteBegun → StaticRoutes
more_routes r line (route.Whole it) = with_route r (route_said line it)
more_routes r line other = r

-- a network has one route to another network, and none to itself
abbrev pub route_fault : NetworkSetting → RouteBegun → Option Expected → Option Fault
route_fault n begun own =
    first_of (
    when (not (nat_lt n.static_routes.count most_routes)) fault.ManyRoutes
    ∷ (route_to begun >>= λ to. when (n.number == to) (fault.OtherNetwork n.line))
    ∷ (route_to begun >>= λ to. option_map fault.OtherNetwork (first_route to n.static_routes))
    ∷ line_fault own
    ∷ [])

abbrev pub with_statics : NetworkSetting → StaticRoutes → StaticServices → NetworkSetting
with_statics n static_routes static_services = record {
  line = n.line;
  first = n.first;
  has_link = n.has_link;
  number = n.number;
  cost = n.cost;
  longest = n.longest;
  has_shares = n.has_shares;
  routes = n.routes;
  services = n.services;
  is_of_several = n.is_of_several;
  has_node = n.has_node;
  node = n.node;
  sockets = n.sockets;
  adopt_line = n.adopt_line;
  rules = n.rules;
  static_routes = static_routes;
  static_services = static_services;
  peers = n.peers;
}

-- a network behind the line of a route, and what is wrong with that
abbrev pub route_taken : ℕ → NetworkSetting → RouteBegun → Option Expected → NetworkSetting × Option Fault
route_taken line n begun own =
    if_right (route_fault n begun own) n (with_statics n (more_routes n.static_routes line begun) n.static_services)

-- ---- the line of a service

abbrev pub more_services : StaticServices → ℕ → ServiceBegun → StaticServices
more_services s line (service.Whole it) = with_service s (service_said line it)
more_services s line other = s

-- a network has one service of a type with a name
abbrev pub service_fault : StaticServices → ServiceBegun → Option Expected → Option Fault
service_fault s begun own =
    first_of (
    when (not (nat_lt s.count most_services)) fault.ManyServices
    ∷ (service_named begun >>= λ it. option_map fault.OtherService (first_service it.0 it.1 s))
    ∷ line_fault own
    ∷ [])

-- a network behind the line of a service, and what is wrong with that
abbrev pub service_taken : ℕ → NetworkSetting → ServiceBegun → Option Expected → NetworkSetting × Option Fault
service_taken line n begun own =
    if_right (service_fault n.static_services begun own) n (with_statics n n.static_routes (more_services n.static_services line begun))
