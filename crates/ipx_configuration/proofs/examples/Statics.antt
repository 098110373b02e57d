-- Below a network lines say which routes and services are by way of nodes there.
use Rattle.std.proofs.Common.{◌≡◌, refl, true, ℕ, List, [], ◌∷◌, replicate, Option, Some, None}
use Rattle.std.specs.Option.{option_map, unwrap_or}
use Rattle.std.specs.Prelude.{codes}
use Rattle.ipx_settings.specs.declared.link.Cards.TheVariants as has
use Rattle.ipx_settings.specs.Names.{padded}
use Rattle.ipx_settings.specs.Statics.{route_at as route_to_say}
use Rattle.ipx_settings.specs.declared.expected.Expected.TheVariants as expected
use Rattle.ipx_settings.specs.declared.network.NetworkBegun.TheVariants as network
use Rattle.ipx_settings.specs.declared.statics.RouteBegun.TheVariants as route
use Rattle.ipx_configuration.specs.Carriers.{no_carrier}
use Rattle.ipx_configuration.specs.Configurations.{nothing, configuration_at, network_of, told}
use Rattle.ipx_configuration.specs.Configured.{configured}
use Rattle.ipx_configuration.specs.Memory.{most_networks, most_links, network_list, link_list}
use Rattle.ipx_configuration.specs.Said.{no_internal, new_link}
use Rattle.ipx_configuration.specs.Statics.{response_route, route_at, no_route, route_list, routes_in, response_service, service_at, no_services, services_in, with_statics, route_taken}
use Rattle.ipx_configuration.specs.Wholes.{after_lines}
use Rattle.ipx_configuration.specs.declared.configuration.Capacity.{Capacity}
use Rattle.ipx_configuration.specs.declared.configuration.Configuration.{Configuration}
use Rattle.ipx_configuration.specs.declared.fault.Fault.{Fault}
use Rattle.ipx_configuration.specs.declared.fault.Fault.TheVariants as fault
use Rattle.ipx_configuration.specs.declared.statics.StaticRouteSaid.{StaticRouteSaid}
use Rattle.ipx_configuration.specs.declared.statics.StaticServiceSaid.{StaticServiceSaid}

abbrev capacity : Capacity
capacity = record { cards = has.All; networks = 32; links = 32; clients = 4096; routes = 64; services = 32 }

abbrev blank : Configuration
blank =
    configuration_at (network_list (replicate most_networks (network_of 0 0 network.Nothing true)) 0)
    (link_list (replicate most_links (new_link 0 0 no_carrier)) 0) no_internal nothing

-- what the first lines of a file say
abbrev said : List (List ℕ) → Configuration
said lines = after_lines capacity 1 blank lines

-- the routes of the first network then, and its services
abbrev routes : List (List ℕ) → List StaticRouteSaid
routes lines = unwrap_or (option_map (λ link. routes_in link.static_routes) (configured capacity 0 (said lines))) []

abbrev services : List (List ℕ) → List StaticServiceSaid
services lines = unwrap_or (option_map (λ link. services_in link.static_services) (configured capacity 0 (said lines))) []

-- what is wrong with a line behind them
abbrev wrong_behind : List (List ℕ) → ℕ → List ℕ → Option Fault
wrong_behind lines number text = (told capacity number text (said lines)).fault

abbrev a_tunnel : List ℕ
a_tunnel = codes "network 10 1 1424 dosbox 0.0.0.0:213"

abbrev of_several : List ℕ
of_several = codes "network 10 1 1424"

abbrev a_node : List ℕ
a_node = 0 ∷ 0 ∷ 0x1B ∷ 2 ∷ 4 ∷ 0xAA ∷ []

abbrev another_node : List ℕ
another_node = 0 ∷ 0 ∷ 0x1B ∷ 2 ∷ 4 ∷ 0xBB ∷ []

abbrev a_route : List ℕ
a_route = codes "route A1 2 3 via 00001B0204AA"

abbrev a_service : List ℕ
a_service = codes "service 4 FILESERVER A1.000000000001.451 1 via 00001B0204AA"

-- ---- lists

pub in_their_order : routes (a_tunnel ∷ a_route ∷ codes "route FFFFFFFE 1 1 via 00001B0204BB" ∷ [])
    ≡ route_at 2 (response_route 0xA1 2 3) a_node ∷ route_at 3 (response_route 0xFFFFFFFE 1 1) another_node ∷ []
in_their_order = refl

pub of_services : services (a_tunnel ∷ a_service ∷ [])
    ≡ service_at 2 (response_service (padded 48 (codes "FILESERVER")) 0xA1 (0 ∷ 0 ∷ 0 ∷ 0 ∷ 0 ∷ 1 ∷ []) 0x451 4 1) a_node ∷ []
of_services = refl

pub below_a_network_and_its_links : routes (of_several ∷ a_route ∷ codes "link dosbox 213" ∷ codes "route A2 2 3 via 00001B0204AA" ∷ [])
    ≡ route_at 2 (response_route 0xA1 2 3) a_node ∷ route_at 4 (response_route 0xA2 2 3) a_node ∷ []
below_a_network_and_its_links = refl

-- ---- what is wrong

pub a_wrong_one : wrong_behind (a_tunnel ∷ []) 2 (codes "route A1 16 3 via 00001B0204AA") ≡ Some (fault.Line expected.Hops)
a_wrong_one = refl

pub above_all : wrong_behind [] 1 a_route ≡ Some fault.BelowNetwork
above_all = refl

pub a_second_route_to_one_network : wrong_behind (a_tunnel ∷ a_route ∷ []) 3 (codes "route 00A1 1 1 via 00001B0204BB") ≡ Some (fault.OtherNetwork 2)
a_second_route_to_one_network = refl

pub a_route_to_the_network_itself : wrong_behind (a_tunnel ∷ []) 2 (codes "route 10 1 1 via 00001B0204AA") ≡ Some (fault.OtherNetwork 1)
a_route_to_the_network_itself = refl

-- (it has no link yet)
pub and_before_its_link : wrong_behind (of_several ∷ []) 2 (codes "route 10 1 1 via 00001B0204AA") ≡ Some (fault.OtherNetwork 1)
and_before_its_link = refl

pub a_route_to_another_network : wrong_behind (a_tunnel ∷ codes "network 20 1 1424 dosbox 214" ∷ []) 3 (codes "route 10 1 1 via 00001B0204AA") ≡ Some (fault.OtherNetwork 1)
a_route_to_another_network = refl

pub a_route_to_the_routers_own : wrong_behind (codes "internal A1" ∷ a_tunnel ∷ []) 3 a_route ≡ Some (fault.OtherNetwork 1)
a_route_to_the_routers_own = refl

pub a_network_where_a_route_leads : wrong_behind (a_tunnel ∷ a_route ∷ []) 3 (codes "network A1 1 1424 dosbox 214") ≡ Some (fault.OtherNetwork 2)
a_network_where_a_route_leads = refl

pub the_routers_own_where_a_route_leads : wrong_behind (a_tunnel ∷ a_route ∷ []) 3 (codes "internal A1") ≡ Some (fault.OtherNetwork 2)
the_routers_own_where_a_route_leads = refl

-- two networks may have routes to one: the router takes the better
pub by_way_of_two_networks : wrong_behind (a_tunnel ∷ a_route ∷ codes "network 20 1 1424 dosbox 214" ∷ []) 4 a_route ≡ None
by_way_of_two_networks = refl

pub one_too_many : (route_taken 9 (with_statics (network_of 1 0 network.Nothing true) (route_list (replicate 64 no_route) 64) no_services) (route.Whole (route_to_say 0xA1 2 3 a_node)) None).1 ≡ Some fault.ManyRoutes
one_too_many = refl

pub a_second_service_of_one_name : wrong_behind (a_tunnel ∷ a_service ∷ []) 3 (codes "service 0004 FILESERVER A2.000000000001.451 1 via 00001B0204AA") ≡ Some (fault.OtherService 2)
a_second_service_of_one_name = refl

pub one_name_for_two_types : wrong_behind (a_tunnel ∷ a_service ∷ []) 3 (codes "service 7 FILESERVER A1.000000000001.452 1 via 00001B0204AA") ≡ None
one_name_for_two_types = refl
