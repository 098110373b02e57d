-- `told`: what a router advertises on a port (IPX Router Specification, split horizon), which is nothing that it learned there.
use Rattle.std.specs.Prelude.{ℕ, ◌+◌, ◌-◌, ◌==◌, ◌&&◌, nat_lt, Bool, not, if◌then◌else◌, List, ◌++◌, map, filter}
use Rattle.std.specs.Ordering.{is_lt}
use Rattle.ipx_wire.specs.declared.rip.RipEntry.{RipEntry}
use Rattle.ipx_wire.specs.declared.service.Service.{Service}
use Rattle.ipx_router.specs.Numbers.{unreachable, most_ticks}
use Rattle.ipx_router.specs.Port.{Port, port_at}
use Rattle.ipx_router.specs.Services.{service_order}
use Rattle.ipx_router.specs.Sorted.{sorted}
use Rattle.ipx_router.specs.declared.route_offer.RouteOffer.{RouteOffer}
use Rattle.ipx_router.specs.declared.service_offer.ServiceOffer.{ServiceOffer}

-- ---- in order

-- the first entry is of the smaller network
abbrev pub network_before : RipEntry → RipEntry → Bool
network_before a b = nat_lt a.network.0 b.network.0

-- entries in the order of their networks
abbrev pub by_network : List RipEntry → List RipEntry
by_network entries = sorted network_before entries

-- the first service is of the smaller type, or of the same type and the smaller name
abbrev pub name_before : Service → Service → Bool
name_before a b = is_lt (service_order (a.kind, a.name) (b.kind, b.name))

-- services in the order of their types and names
abbrev pub by_name : List Service → List Service
by_name services = sorted name_before services

-- ---- one hop farther, or unreachable

-- what is this many hops away from here is still reachable for the next router
abbrev pub is_reached_on : ℕ → Bool
is_reached_on hops = nat_lt hops (unreachable - 1)

-- an entry as it is advertised on a port of that cost: with one hop more, and with the cost added to its ticks, up to the most (own)
abbrev pub told_at : ℕ → RipEntry → RipEntry
told_at cost entry = record {
  network = entry.network;
  hops = entry.hops + 1;
  ticks = if nat_lt (entry.ticks + cost) most_ticks then entry.ticks + cost else most_ticks;
}

-- an entry for a network that is unreachable
abbrev pub dead : RipEntry → RipEntry
dead entry = record { network = entry.network; hops = unreachable; ticks = most_ticks }

-- a service as it is advertised: with one hop more
abbrev pub farther : Service → Service
farther service = record service { hops = service.hops + 1 }

-- a service that is unreachable, at the same address
abbrev pub dead_service : Service → Service
dead_service service = record service { hops = unreachable }

-- ---- routes

-- the network of a port: no hop away, at the cost of the port
abbrev pub direct_entry : List Port → ℕ → RipEntry
direct_entry ports number = record { network = (port_at ports number).network; hops = 0; ticks = (port_at ports number).cost }

-- the networks of the other ports that are up
abbrev pub direct : List Port → List ℕ → ℕ → List RipEntry
direct ports up number = map (direct_entry ports) (filter (λ other. not (other == number)) up)

-- a route as an entry, with hops and ticks as they were heard
abbrev pub entry_of : RouteOffer → RipEntry
entry_of route = record { network = route.network; hops = route.hops; ticks = route.ticks }

-- a route is advertised on a port if it wasn't learned there and the next router can still reach its network
abbrev pub is_route_told : ℕ → RouteOffer → Bool
is_route_told number route = not (route.port == number) && is_reached_on route.hops

-- the routes that are advertised on a port, as they were heard
abbrev pub learned : List RouteOffer → ℕ → List RipEntry
learned routes number = map entry_of (filter (is_route_told number) routes)

-- all routes that are advertised on a port, as they are advertised, by network
abbrev pub told : List Port → List ℕ → List RouteOffer → ℕ → List RipEntry
told ports up routes number =
    by_network (map (told_at (port_at ports number).cost) (direct ports up number ++ learned routes number))

-- ---- services

-- a service is advertised on a port if it wasn't learned there and the next router can still reach it
abbrev pub is_service_told : ℕ → ServiceOffer → Bool
is_service_told number offer = not (offer.port == number) && is_reached_on offer.service.hops

-- all services that are advertised on a port, as they are advertised, by type and name
abbrev pub told_services : List ServiceOffer → ℕ → List Service
told_services services number = by_name (map (λ s. farther s.service) (filter (is_service_told number) services))
