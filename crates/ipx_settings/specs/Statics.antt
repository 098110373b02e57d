-- The words of a route and of a service by way of a node that says nothing itself.
use Rattle.std.specs.Prelude.{ℕ, Bool, true, false, ◌&&◌, not, ◌==◌, nat_le, if◌then◌else◌, List, Option, Some, None, Result, Ok, Err, codes}
use Rattle.std.specs.List.{list_all}
use Rattle.ipx_settings.specs.Cutting.{◌>>=◌, cut_at, dot}
use Rattle.ipx_settings.specs.Links.{said, is_the}
use Rattle.ipx_settings.specs.Networks.{last_network}
use Rattle.ipx_settings.specs.Nodes.{node_bytes_of, node_of}
use Rattle.ipx_settings.specs.Numbers.{number_of, hexadecimal_of}
use Rattle.ipx_settings.specs.Rules.{service_name_of, one_network}
use Rattle.ipx_settings.specs.declared.expected.Expected.{Expected}
use Rattle.ipx_settings.specs.declared.expected.Expected.TheVariants as expected
use Rattle.ipx_settings.specs.declared.statics.RouteBegun.{RouteBegun}
use Rattle.ipx_settings.specs.declared.statics.RouteBegun.TheVariants as route
use Rattle.ipx_settings.specs.declared.statics.ServiceAddress.{ServiceAddress}
use Rattle.ipx_settings.specs.declared.statics.ServiceBegun.{ServiceBegun}
use Rattle.ipx_settings.specs.declared.statics.ServiceBegun.TheVariants as service
use Rattle.ipx_settings.specs.declared.statics.StaticRoute.{StaticRoute}
use Rattle.ipx_settings.specs.declared.statics.StaticService.{StaticService}

-- 16 hops are unreachable
abbrev pub most_hops : ℕ
most_hops = 15

abbrev pub hops_of : List ℕ → Option ℕ
hops_of word = number_of 1 most_hops word

-- ---- routes

abbrev pub route_at : ℕ → ℕ → ℕ → List ℕ → StaticRoute
route_at network hops ticks via = record { network = network; hops = hops; ticks = ticks; via = via }

-- a word more: where it leads, the hops and ticks, and a node behind its word
abbrev pub route_step : RouteBegun → List ℕ → Result RouteBegun Expected
route_step route.Nothing word = said expected.Destination route.To (one_network word)
route_step (route.To network) word = said expected.Hops (route.Hops network) (hops_of word)
route_step (route.Hops network hops) word = said expected.Ticks (route.Ticks network hops) (number_of 1 65535 word)
route_step (route.Ticks network hops ticks) word =
    if is_the word (codes "via") then Ok (route.Via network hops ticks) else Err expected.Via
route_step (route.Via network hops ticks) word = said expected.Node (λ via. route.Whole (route_at network hops ticks via)) (node_of word)
route_step (route.Whole it) word = Err expected.Nothing

abbrev pub route_ends : RouteBegun → Bool
route_ends (route.Whole it) = true
route_ends other = false

-- where it leads, as far as it was read
abbrev pub route_to : RouteBegun → Option ℕ
route_to route.Nothing = None
route_to (route.To network) = Some network
route_to (route.Hops network hops) = Some network
route_to (route.Ticks network hops ticks) = Some network
route_to (route.Via network hops ticks) = Some network
route_to (route.Whole it) = Some it.network

-- ---- services

-- one type: FFFF stands for every type
abbrev pub last_type : ℕ
last_type = 65534

abbrev pub one_type_of : List ℕ → Option ℕ
one_type_of word = hexadecimal_of 4 1 last_type word

-- a printable byte of ASCII, and no blank
abbrev pub is_plain_byte : ℕ → Bool
is_plain_byte byte = nat_le 33 byte && nat_le byte 126

-- the name of one service, in which a star stands for nothing and may not stand
abbrev pub plain_name_of : List ℕ → Option (List ℕ)
plain_name_of word = if list_all is_plain_byte word then service_name_of word else None

-- neither none, nor all of them
abbrev pub is_host_node : List ℕ → Bool
is_host_node node = not (list_all (λ byte. byte == 0) node) && not (list_all (λ byte. byte == 255) node)

abbrev pub host_node_of : List ℕ → Option (List ℕ)
host_node_of word = node_bytes_of word >>= λ node. if is_host_node node then Some node else None

abbrev pub service_address_at : ℕ → List ℕ → ℕ → ServiceAddress
service_address_at network node socket = record { network = network; node = node; socket = socket }

-- NETWORK.NODE.SOCKET
abbrev pub service_address_of : List ℕ → Option ServiceAddress
service_address_of word =
    cut_at dot word >>= λ first. cut_at dot first.1 >>= λ second.
    hexadecimal_of 8 1 last_network first.0 >>= λ network. host_node_of second.0 >>= λ node.
    hexadecimal_of 4 1 65535 second.1 >>= λ socket. Some (service_address_at network node socket)

abbrev pub service_at : ℕ → List ℕ → ServiceAddress → ℕ → List ℕ → StaticService
service_at kind name address hops via = record { kind = kind; name = name; address = address; hops = hops; via = via }

-- a word more: its type, name and address, the hops, and a node behind its word
abbrev pub service_step : ServiceBegun → List ℕ → Result ServiceBegun Expected
service_step service.Nothing word = said expected.OneType service.Kind (one_type_of word)
service_step (service.Kind kind) word = said expected.ServiceName (service.Named kind) (plain_name_of word)
service_step (service.Named kind name) word = said expected.ServiceAddress (service.At kind name) (service_address_of word)
service_step (service.At kind name address) word = said expected.Hops (service.Hops kind name address) (hops_of word)
service_step (service.Hops kind name address hops) word =
    if is_the word (codes "via") then Ok (service.Via kind name address hops) else Err expected.Via
service_step (service.Via kind name address hops) word =
    said expected.Node (λ via. service.Whole (service_at kind name address hops via)) (node_of word)
service_step (service.Whole it) word = Err expected.Nothing

abbrev pub service_ends : ServiceBegun → Bool
service_ends (service.Whole it) = true
service_ends other = false

-- its type and its name, as far as they were read
abbrev pub service_named : ServiceBegun → Option (ℕ × List ℕ)
service_named service.Nothing = None
service_named (service.Kind kind) = None
service_named (service.Named kind name) = Some (kind, name)
service_named (service.At kind name address) = Some (kind, name)
service_named (service.Hops kind name address hops) = Some (kind, name)
service_named (service.Via kind name address hops) = Some (kind, name)
service_named (service.Whole it) = Some (it.kind, it.name)
