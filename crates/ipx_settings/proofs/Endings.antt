use Rattle.std.proofs.Common.{◌≡◌, ℕ, ◌≤◌, nat_le, Bool, true, false, List, [], ◌∷◌, refl, arith, Some, None}
use Rattle.std.specs.Prelude.{codes}
use Rattle.ipx_settings.specs.Addresses.{own_host, four_at, six_at}
use Rattle.ipx_settings.specs.Names.{padded, name_room, host_room}
use Rattle.ipx_settings.specs.Rules.{service_room}
use Rattle.ipx_settings.specs.Statics.{route_at, service_address_at, service_at}
use Rattle.ipx_settings.specs.Beginnings.{said_by}
use Rattle.ipx_settings.specs.Lines.{line_step, line_ends, fault_of}
use Rattle.ipx_settings.specs.declared.addresses.Address.{Address}
use Rattle.ipx_settings.specs.declared.addresses.Host.{Host}
use Rattle.ipx_settings.specs.declared.addresses.Host.TheVariants.{Four, Six}
use Rattle.ipx_settings.specs.declared.addresses.Place.TheVariants.{At}
use Rattle.ipx_settings.specs.declared.expected.Expected.{Expected}
use Rattle.ipx_settings.specs.declared.expected.Expected.TheVariants as expected
use Rattle.ipx_settings.specs.declared.internal.InternalBegun.TheVariants as internal
use Rattle.ipx_settings.specs.declared.line.ClientsBegun.TheVariants as clients
use Rattle.ipx_settings.specs.declared.line.Context.{Context}
use Rattle.ipx_settings.specs.declared.line.Line.{Line}
use Rattle.ipx_settings.specs.declared.line.Line.TheVariants as line
use Rattle.ipx_settings.specs.declared.line.RateBegun.TheVariants as rate
use Rattle.ipx_settings.specs.declared.link.End.{End}
use Rattle.ipx_settings.specs.declared.link.End.TheVariants as ends
use Rattle.ipx_settings.specs.declared.link.Frames.TheVariants.{Raw}
use Rattle.ipx_settings.specs.declared.link.Link.TheVariants as link
use Rattle.ipx_settings.specs.declared.link.LinkBegun.{LinkBegun}
use Rattle.ipx_settings.specs.declared.link.LinkBegun.TheVariants as begun
use Rattle.ipx_settings.specs.declared.network.Head.{Head}
use Rattle.ipx_settings.specs.declared.network.NetworkBegun.TheVariants as network
use Rattle.ipx_settings.specs.declared.rule.Names.TheVariants as names
use Rattle.ipx_settings.specs.declared.rule.RuleBegun.{RuleBegun}
use Rattle.ipx_settings.specs.declared.rule.RuleBegun.TheVariants as rule
use Rattle.ipx_settings.specs.declared.rule.Way.TheVariants.{In}
use Rattle.ipx_settings.specs.declared.rule.What.{What}
use Rattle.ipx_settings.specs.declared.rule.What.TheVariants as what
use Rattle.ipx_settings.specs.declared.statics.RouteBegun.{RouteBegun}
use Rattle.ipx_settings.specs.declared.statics.RouteBegun.TheVariants as route
use Rattle.ipx_settings.specs.declared.statics.ServiceAddress.{ServiceAddress}
use Rattle.ipx_settings.specs.declared.statics.ServiceBegun.{ServiceBegun}
use Rattle.ipx_settings.specs.declared.statics.ServiceBegun.TheVariants as service

-- words that make it a line
abbrev pub CanEnd : Context → Line → Type 0
CanEnd c l = (more : List (List ℕ)) × ((m : Line) × ((said_by c l more ≡ Some m) × (line_ends m ≡ true)))

ends_now : (c : Context) (l : Line) → line_ends l ≡ true → CanEnd c l
ends_now c l is = ([], (l, (refl, is)))

-- ---- links

abbrev own : Address
own = four_at own_host 1

abbrev a_group : Address
a_group = four_at (224 ∷ 0 ∷ 0 ∷ 0 ∷ []) 1

abbrev framed : End → LinkBegun
framed end = begun.Whole (link.Framed end Raw)

abbrev whole_tunnel : LinkBegun
whole_tunnel = begun.Whole (link.Tunnel own)

abbrev one_six : List ℕ
one_six = 0 ∷ 0 ∷ 0 ∷ 0 ∷ 0 ∷ 0 ∷ 0 ∷ 1 ∷ []

from_link_can_end : (c : Context) (host : Host) (port : ℕ) → CanEnd c (line.Link (begun.UdpFrom (record { host = host; port = port })))
from_link_can_end c (Four four) port = (codes "1" ∷ codes "raw" ∷ [], (line.Link (framed (ends.Udp (four_at four port) (At own))), (refl, refl)))
from_link_can_end c (Six six) port = (codes "[::1]:1" ∷ codes "raw" ∷ [], (line.Link (framed (ends.Udp (six_at six port) (At (six_at one_six 1)))), (refl, refl)))

link_can_end : (c : Context) (b : LinkBegun) → CanEnd c (line.Link b)
link_can_end c begun.Nothing = (codes "dosbox" ∷ codes "1" ∷ [], (line.Link (whole_tunnel), (refl, refl)))
link_can_end c begun.Tunnel = (codes "1" ∷ [], (line.Link (whole_tunnel), (refl, refl)))
link_can_end c begun.Udp = (codes "1" ∷ codes "1" ∷ codes "raw" ∷ [], (line.Link (framed (ends.Udp own (At own))), (refl, refl)))
link_can_end c begun.Tcp = (codes "listen" ∷ codes "1" ∷ codes "raw" ∷ [], (line.Link (framed (ends.Listen own)), (refl, refl)))
link_can_end c begun.Listen = (codes "1" ∷ codes "raw" ∷ [], (line.Link (framed (ends.Listen own)), (refl, refl)))
link_can_end c begun.Connect = (codes "1" ∷ codes "raw" ∷ [], (line.Link (framed (ends.Connect (At own))), (refl, refl)))
link_can_end c begun.Tap = (codes "a" ∷ codes "raw" ∷ [], (line.Link (framed (ends.Tap (padded name_room (codes "a")))), (refl, refl)))
link_can_end c begun.Interface = (codes "a" ∷ codes "raw" ∷ [], (line.Link (framed (ends.Interface (padded name_room (codes "a")))), (refl, refl)))
link_can_end c begun.Multicast = (codes "224.0.0.0:1" ∷ codes "raw" ∷ [], (line.Link (framed (ends.Group a_group own_host)), (refl, refl)))
link_can_end c (begun.Group group) = (codes "raw" ∷ [], (line.Link (framed (ends.Group group own_host)), (refl, refl)))
link_can_end c (begun.Via group) = (codes "1.1.1.1" ∷ codes "raw" ∷ [], (line.Link (framed (ends.Group group (1 ∷ 1 ∷ 1 ∷ 1 ∷ []))), (refl, refl)))
link_can_end c begun.Vde = (codes "a" ∷ codes "raw" ∷ [], (line.Link (framed (ends.Switch (padded host_room (codes "a")))), (refl, refl)))
link_can_end c begun.Web = (codes "1" ∷ [], (line.Link (begun.Whole (link.Web own)), (refl, refl)))
link_can_end c begun.Peers = (codes "1" ∷ codes "a" ∷ codes "raw" ∷ [], (line.Link (framed (ends.Peers own (padded host_room (codes "a")))), (refl, refl)))
link_can_end c (begun.PeersAt a) = (codes "a" ∷ codes "raw" ∷ [], (line.Link (framed (ends.Peers a (padded host_room (codes "a")))), (refl, refl)))
link_can_end c begun.Rfc1234 = (codes "1" ∷ [], (line.Link (begun.Whole (link.Rfc1234 own)), (refl, refl)))
link_can_end c (begun.UdpFrom a) = from_link_can_end c a.host a.port
link_can_end c (begun.End end) = (codes "raw" ∷ [], (line.Link (framed end), (refl, refl)))
link_can_end c (begun.Whole whole) = ends_now c (line.Link (begun.Whole whole)) refl

from_network_can_end : (c : Context) (head : Head) (host : Host) (port : ℕ) → CanEnd c (line.Network (network.Link head (begun.UdpFrom (record { host = host; port = port }))))
from_network_can_end c head (Four four) port = (codes "1" ∷ codes "raw" ∷ [], (line.Network (network.Link head (framed (ends.Udp (four_at four port) (At own)))), (refl, refl)))
from_network_can_end c head (Six six) port = (codes "[::1]:1" ∷ codes "raw" ∷ [], (line.Network (network.Link head (framed (ends.Udp (six_at six port) (At (six_at one_six 1))))), (refl, refl)))

network_can_end : (c : Context) (head : Head) (b : LinkBegun) → CanEnd c (line.Network (network.Link head b))
network_can_end c head begun.Nothing = (codes "dosbox" ∷ codes "1" ∷ [], (line.Network (network.Link head (whole_tunnel)), (refl, refl)))
network_can_end c head begun.Tunnel = (codes "1" ∷ [], (line.Network (network.Link head (whole_tunnel)), (refl, refl)))
network_can_end c head begun.Udp = (codes "1" ∷ codes "1" ∷ codes "raw" ∷ [], (line.Network (network.Link head (framed (ends.Udp own (At own)))), (refl, refl)))
network_can_end c head begun.Tcp = (codes "listen" ∷ codes "1" ∷ codes "raw" ∷ [], (line.Network (network.Link head (framed (ends.Listen own))), (refl, refl)))
network_can_end c head begun.Listen = (codes "1" ∷ codes "raw" ∷ [], (line.Network (network.Link head (framed (ends.Listen own))), (refl, refl)))
network_can_end c head begun.Connect = (codes "1" ∷ codes "raw" ∷ [], (line.Network (network.Link head (framed (ends.Connect (At own)))), (refl, refl)))
network_can_end c head begun.Tap = (codes "a" ∷ codes "raw" ∷ [], (line.Network (network.Link head (framed (ends.Tap (padded name_room (codes "a"))))), (refl, refl)))
network_can_end c head begun.Interface = (codes "a" ∷ codes "raw" ∷ [], (line.Network (network.Link head (framed (ends.Interface (padded name_room (codes "a"))))), (refl, refl)))
network_can_end c head begun.Multicast = (codes "224.0.0.0:1" ∷ codes "raw" ∷ [], (line.Network (network.Link head (framed (ends.Group a_group own_host))), (refl, refl)))
network_can_end c head (begun.Group group) = (codes "raw" ∷ [], (line.Network (network.Link head (framed (ends.Group group own_host))), (refl, refl)))
network_can_end c head (begun.Via group) = (codes "1.1.1.1" ∷ codes "raw" ∷ [], (line.Network (network.Link head (framed (ends.Group group (1 ∷ 1 ∷ 1 ∷ 1 ∷ [])))), (refl, refl)))
network_can_end c head begun.Vde = (codes "a" ∷ codes "raw" ∷ [], (line.Network (network.Link head (framed (ends.Switch (padded host_room (codes "a"))))), (refl, refl)))
network_can_end c head begun.Web = (codes "1" ∷ [], (line.Network (network.Link head (begun.Whole (link.Web own))), (refl, refl)))
network_can_end c head begun.Peers = (codes "1" ∷ codes "a" ∷ codes "raw" ∷ [], (line.Network (network.Link head (framed (ends.Peers own (padded host_room (codes "a"))))), (refl, refl)))
network_can_end c head (begun.PeersAt a) = (codes "a" ∷ codes "raw" ∷ [], (line.Network (network.Link head (framed (ends.Peers a (padded host_room (codes "a"))))), (refl, refl)))
network_can_end c head begun.Rfc1234 = (codes "1" ∷ [], (line.Network (network.Link head (begun.Whole (link.Rfc1234 own))), (refl, refl)))
network_can_end c head (begun.UdpFrom a) = from_network_can_end c head a.host a.port
network_can_end c head (begun.End end) = (codes "raw" ∷ [], (line.Network (network.Link head (framed end)), (refl, refl)))
network_can_end c head (begun.Whole whole) = ends_now c (line.Network (network.Link head (begun.Whole whole))) refl

-- ---- rules

abbrev whole : Bool → What → Line
whole permits it = line.Rule permits (rule.Whole it)

rule_can_end : (c : Context) (permits : Bool) (it : RuleBegun) → CanEnd c (line.Rule permits it)
rule_can_end c permits rule.Nothing = (codes "nearest" ∷ [], (whole permits what.Nearest, (refl, refl)))
rule_can_end c permits rule.Kind = (codes "1" ∷ [], (whole permits (what.Kind 1), (refl, refl)))
rule_can_end c permits rule.OnSocket = (codes "1" ∷ [], (whole permits (what.OnSocket 1), (refl, refl)))
rule_can_end c permits rule.Routes = (codes "1" ∷ codes "in" ∷ [], (whole permits (what.Routes In 1 1), (refl, refl)))
rule_can_end c permits (rule.RoutesTo from to) = (codes "in" ∷ [], (whole permits (what.Routes In from to), (refl, refl)))
rule_can_end c permits rule.Services = (codes "1" ∷ codes "*" ∷ codes "in" ∷ [], (whole permits (what.Services In 1 names.All), (refl, refl)))
rule_can_end c permits (rule.ServicesOf kind) = (codes "*" ∷ codes "in" ∷ [], (whole permits (what.Services In kind names.All), (refl, refl)))
rule_can_end c permits (rule.ServicesNamed kind it) = (codes "in" ∷ [], (whole permits (what.Services In kind it), (refl, refl)))
rule_can_end c permits (rule.Whole it) = ends_now c (whole permits it) refl

-- ---- routes and services

abbrev a_node : List ℕ
a_node = 0 ∷ 0 ∷ 0 ∷ 0 ∷ 0 ∷ 1 ∷ []

-- by way of it
abbrev by_it : List (List ℕ)
by_it = codes "via" ∷ codes "000000000001" ∷ []

abbrev a_route : ℕ → ℕ → ℕ → Line
a_route network hops ticks = line.Route (route.Whole (route_at network hops ticks a_node))

route_can_end : (c : Context) (it : RouteBegun) → CanEnd c (line.Route it)
route_can_end c route.Nothing = (codes "1" ∷ codes "1" ∷ codes "1" ∷ by_it, (a_route 1 1 1, (refl, refl)))
route_can_end c (route.To network) = (codes "1" ∷ codes "1" ∷ by_it, (a_route network 1 1, (refl, refl)))
route_can_end c (route.Hops network hops) = (codes "1" ∷ by_it, (a_route network hops 1, (refl, refl)))
route_can_end c (route.Ticks network hops ticks) = (by_it, (a_route network hops ticks, (refl, refl)))
route_can_end c (route.Via network hops ticks) = (codes "000000000001" ∷ [], (a_route network hops ticks, (refl, refl)))
route_can_end c (route.Whole it) = ends_now c (line.Route (route.Whole it)) refl

abbrev a_name : List ℕ
a_name = padded service_room (codes "A")

abbrev an_address : ServiceAddress
an_address = service_address_at 1 a_node 1

abbrev its_word : List ℕ
its_word = codes "1.000000000001.1"

abbrev a_service : ℕ → List ℕ → ServiceAddress → ℕ → Line
a_service kind name address hops = line.Service (service.Whole (service_at kind name address hops a_node))

service_can_end : (c : Context) (it : ServiceBegun) → CanEnd c (line.Service it)
service_can_end c service.Nothing = (codes "1" ∷ codes "A" ∷ its_word ∷ codes "1" ∷ by_it, (a_service 1 a_name an_address 1, (refl, refl)))
service_can_end c (service.Kind kind) = (codes "A" ∷ its_word ∷ codes "1" ∷ by_it, (a_service kind a_name an_address 1, (refl, refl)))
service_can_end c (service.Named kind name) = (its_word ∷ codes "1" ∷ by_it, (a_service kind name an_address 1, (refl, refl)))
service_can_end c (service.At kind name address) = (codes "1" ∷ by_it, (a_service kind name address 1, (refl, refl)))
service_can_end c (service.Hops kind name address hops) = (by_it, (a_service kind name address hops, (refl, refl)))
service_can_end c (service.Via kind name address hops) = (codes "000000000001" ∷ [], (a_service kind name address hops, (refl, refl)))
service_can_end c (service.Whole it) = ends_now c (line.Service (service.Whole it)) refl

-- ---- lines

abbrev a_head : ℕ → ℕ → Head
a_head number cost = record { number = number; cost = cost; longest = 1424; shares = None }

-- whatever was said may be made a line, if a network may have a client
pub can_end : (c : Context) (l : Line) → 1 ≤ c.most_clients → CanEnd c l
can_end c line.Nothing some = ends_now c line.Nothing refl
can_end c (line.Network network.Nothing) some =
    (codes "1" ∷ codes "1" ∷ codes "1424" ∷ [], (line.Network (network.Head (a_head 1 1)), (refl, refl)))
can_end c (line.Network (network.Number number)) some =
    (codes "1" ∷ codes "1424" ∷ [], (line.Network (network.Head (a_head number 1)), (refl, refl)))
can_end c (line.Network (network.Cost number cost)) some =
    (codes "1424" ∷ [], (line.Network (network.Head (a_head number cost)), (refl, refl)))
can_end c (line.Network (network.Head head)) some = ends_now c (line.Network (network.Head head)) refl
can_end c (line.Network (network.Routes head routes)) some =
    (codes "1" ∷ [], (line.Network (network.Head (record { number = head.number; cost = head.cost; longest = head.longest; shares = Some (record { routes = routes; services = 1 }) })), (refl, refl)))
can_end c (line.Network (network.Link head b)) some = network_can_end c head b
can_end c (line.Network (network.Node head whole)) some =
    (codes "020000000001" ∷ [], (line.Network (network.Whole head whole (2 ∷ 0 ∷ 0 ∷ 0 ∷ 0 ∷ 1 ∷ [])), (refl, refl)))
can_end c (line.Network (network.Whole head whole node)) some = ends_now c (line.Network (network.Whole head whole node)) refl
can_end c (line.Link b) some = link_can_end c b
can_end c (line.Extend has_some) some = (codes "1" ∷ [], (line.Extend true, (refl, refl)))
can_end c (line.Clients clients.Nothing) some =
    let fits : nat_le 1 c.most_clients ≡ true = grind (arith, some) in
    (codes "1" ∷ [], (line.Clients (clients.All 1), (rw fits refl, refl)))
can_end c (line.Clients (clients.All n)) some = ends_now c (line.Clients (clients.All n)) refl
can_end c (line.Clients (clients.OfAddress n m)) some = ends_now c (line.Clients (clients.OfAddress n m)) refl
can_end c (line.Allow has_some) some = (codes "1.1.1.1" ∷ [], (line.Allow true, (refl, refl)))
can_end c (line.Trust has_some) some = (codes "1.1.1.1" ∷ [], (line.Trust true, (refl, refl)))
can_end c (line.Rate rate.Nothing) some = (codes "none" ∷ [], (line.Rate (rate.Rate 0), (refl, refl)))
can_end c (line.Rate (rate.Rate r)) some = ends_now c (line.Rate (rate.Rate r)) refl
can_end c (line.Rate (rate.Share r share)) some = ends_now c (line.Rate (rate.Share r share)) refl
can_end c (line.Rate (rate.Household r share household)) some = ends_now c (line.Rate (rate.Household r share household)) refl
can_end c (line.Strangers None) some = (codes "none" ∷ [], (line.Strangers (Some 0), (refl, refl)))
can_end c (line.Strangers (Some r)) some = ends_now c (line.Strangers (Some r)) refl
can_end c (line.Kilobits None) some = (codes "1" ∷ [], (line.Kilobits (Some 1), (refl, refl)))
can_end c (line.Kilobits (Some n)) some = ends_now c (line.Kilobits (Some n)) refl
can_end c (line.Nodes false) some = (codes "by-address" ∷ [], (line.Nodes true, (refl, refl)))
can_end c (line.Nodes true) some = ends_now c (line.Nodes true) refl
can_end c (line.Internal internal.Nothing) some = (codes "1" ∷ [], (line.Internal (internal.Number 1), (refl, refl)))
can_end c (line.Internal (internal.Number number)) some = ends_now c (line.Internal (internal.Number number)) refl
can_end c (line.Internal (internal.Node number)) some =
    (codes "020000000001" ∷ [], (line.Internal (internal.Whole number (2 ∷ 0 ∷ 0 ∷ 0 ∷ 0 ∷ 1 ∷ [])), (refl, refl)))
can_end c (line.Internal (internal.Whole number node)) some = ends_now c (line.Internal (internal.Whole number node)) refl
can_end c (line.Adopt false) some = (codes "no" ∷ [], (line.Adopt true, (refl, refl)))
can_end c (line.Adopt true) some = ends_now c (line.Adopt true) refl
can_end c (line.Rule permits it) some = rule_can_end c permits it
can_end c (line.Route it) some = route_can_end c it
can_end c (line.Service it) some = service_can_end c it
can_end c (line.Origins has_some) some = (codes "*" ∷ [], (line.Origins true, (refl, refl)))
can_end c (line.Peer None) some = (codes "1" ∷ [], (line.Peer (Some (At own)), (refl, refl)))
can_end c (line.Peer (Some place)) some = ends_now c (line.Peer (Some place)) refl

-- ---- what doesn't end says what was expected

abbrev Refuses : Context → Line → Type 0
Refuses c l = (e : Expected) × (fault_of (line_step c l []) ≡ Some e)

link_refuses : (c : Context) (b : LinkBegun) → line_ends (line.Link b) ≡ false → Refuses c (line.Link b)
link_refuses c begun.Nothing open_still = (expected.Link, refl)
link_refuses c begun.Tunnel open_still = (expected.Address, refl)
link_refuses c begun.Udp open_still = (expected.Address, refl)
link_refuses c (begun.UdpFrom a) open_still = (expected.Remote, refl)
link_refuses c begun.Tcp open_still = (expected.Connection, refl)
link_refuses c begun.Listen open_still = (expected.Address, refl)
link_refuses c begun.Connect open_still = (expected.Remote, refl)
link_refuses c begun.Tap open_still = (expected.Tap, refl)
link_refuses c begun.Interface open_still = (expected.Interface, refl)
link_refuses c begun.Multicast open_still = (expected.Group, refl)
link_refuses c (begun.Group group) open_still = (expected.ViaOrFrames, refl)
link_refuses c (begun.Via group) open_still = (expected.Card, refl)
link_refuses c begun.Vde open_still = (expected.Switch, refl)
link_refuses c begun.Web open_still = (expected.Address, refl)
link_refuses c begun.Peers open_still = (expected.Address, refl)
link_refuses c (begun.PeersAt local) open_still = (expected.KeyFile, refl)
link_refuses c begun.Rfc1234 open_still = (expected.CardAndPort, refl)
link_refuses c (begun.End end) open_still = (expected.Frames, refl)
link_refuses c (begun.Whole whole) open_still = absurd cc

network_refuses : (c : Context) (head : Head) (b : LinkBegun) → line_ends (line.Network (network.Link head b)) ≡ false → Refuses c (line.Network (network.Link head b))
network_refuses c head begun.Nothing open_still = (expected.Link, refl)
network_refuses c head begun.Tunnel open_still = (expected.Address, refl)
network_refuses c head begun.Udp open_still = (expected.Address, refl)
network_refuses c head (begun.UdpFrom a) open_still = (expected.Remote, refl)
network_refuses c head begun.Tcp open_still = (expected.Connection, refl)
network_refuses c head begun.Listen open_still = (expected.Address, refl)
network_refuses c head begun.Connect open_still = (expected.Remote, refl)
network_refuses c head begun.Tap open_still = (expected.Tap, refl)
network_refuses c head begun.Interface open_still = (expected.Interface, refl)
network_refuses c head begun.Multicast open_still = (expected.Group, refl)
network_refuses c head (begun.Group group) open_still = (expected.ViaOrFrames, refl)
network_refuses c head (begun.Via group) open_still = (expected.Card, refl)
network_refuses c head begun.Vde open_still = (expected.Switch, refl)
network_refuses c head begun.Web open_still = (expected.Address, refl)
network_refuses c head begun.Peers open_still = (expected.Address, refl)
network_refuses c head (begun.PeersAt local) open_still = (expected.KeyFile, refl)
network_refuses c head begun.Rfc1234 open_still = (expected.CardAndPort, refl)
network_refuses c head (begun.End end) open_still = (expected.Frames, refl)
network_refuses c head (begun.Whole whole) open_still = absurd cc

pub refuses : (c : Context) (l : Line) → line_ends l ≡ false → Refuses c l
refuses c line.Nothing open_still = absurd cc
refuses c (line.Network network.Nothing) open_still = (expected.Network, refl)
refuses c (line.Network (network.Number number)) open_still = (expected.Cost, refl)
refuses c (line.Network (network.Cost number cost)) open_still = (expected.Longest, refl)
refuses c (line.Network (network.Head head)) open_still = absurd cc
refuses c (line.Network (network.Routes head routes)) open_still = (expected.Services, refl)
refuses c (line.Network (network.Link head b)) open_still = network_refuses c head b open_still
refuses c (line.Network (network.Node head whole)) open_still = (expected.Node, refl)
refuses c (line.Network (network.Whole head whole node)) open_still = absurd cc
refuses c (line.Link b) open_still = link_refuses c b open_still
refuses c (line.Extend has_some) open_still = (expected.Socket, refl)
refuses c (line.Clients clients.Nothing) open_still = (expected.Clients, refl)
refuses c (line.Clients (clients.All n)) open_still = absurd cc
refuses c (line.Clients (clients.OfAddress n m)) open_still = absurd cc
refuses c (line.Allow has_some) open_still = (expected.Range, refl)
refuses c (line.Trust has_some) open_still = (expected.Range, refl)
refuses c (line.Rate rate.Nothing) open_still = (expected.Rate, refl)
refuses c (line.Rate (rate.Rate r)) open_still = absurd cc
refuses c (line.Rate (rate.Share r share)) open_still = absurd cc
refuses c (line.Rate (rate.Household r share household)) open_still = absurd cc
refuses c (line.Strangers None) open_still = (expected.Strangers, refl)
refuses c (line.Strangers (Some r)) open_still = absurd cc
refuses c (line.Kilobits None) open_still = (expected.Kilobits, refl)
refuses c (line.Kilobits (Some n)) open_still = absurd cc
refuses c (line.Nodes false) open_still = (expected.ByAddress, refl)
refuses c (line.Nodes true) open_still = absurd cc
refuses c (line.Internal internal.Nothing) open_still = (expected.Network, refl)
refuses c (line.Internal (internal.Number number)) open_still = absurd cc
refuses c (line.Internal (internal.Node number)) open_still = (expected.Node, refl)
refuses c (line.Internal (internal.Whole number node)) open_still = absurd cc
refuses c (line.Adopt false) open_still = (expected.No, refl)
refuses c (line.Adopt true) open_still = absurd cc
refuses c (line.Rule permits rule.Nothing) open_still = (expected.Rule, refl)
refuses c (line.Rule permits rule.Kind) open_still = (expected.PacketType, refl)
refuses c (line.Rule permits rule.OnSocket) open_still = (expected.Socket, refl)
refuses c (line.Rule permits rule.Routes) open_still = (expected.Networks, refl)
refuses c (line.Rule permits (rule.RoutesTo from to)) open_still = (expected.Way, refl)
refuses c (line.Rule permits rule.Services) open_still = (expected.ServiceType, refl)
refuses c (line.Rule permits (rule.ServicesOf kind)) open_still = (expected.ServiceNames, refl)
refuses c (line.Rule permits (rule.ServicesNamed kind it)) open_still = (expected.Way, refl)
refuses c (line.Rule permits (rule.Whole it)) open_still = absurd cc
refuses c (line.Route route.Nothing) open_still = (expected.Destination, refl)
refuses c (line.Route (route.To network)) open_still = (expected.Hops, refl)
refuses c (line.Route (route.Hops network hops)) open_still = (expected.Ticks, refl)
refuses c (line.Route (route.Ticks network hops ticks)) open_still = (expected.Via, refl)
refuses c (line.Route (route.Via network hops ticks)) open_still = (expected.Node, refl)
refuses c (line.Route (route.Whole it)) open_still = absurd cc
refuses c (line.Service service.Nothing) open_still = (expected.OneType, refl)
refuses c (line.Service (service.Kind kind)) open_still = (expected.ServiceName, refl)
refuses c (line.Service (service.Named kind name)) open_still = (expected.ServiceAddress, refl)
refuses c (line.Service (service.At kind name address)) open_still = (expected.Hops, refl)
refuses c (line.Service (service.Hops kind name address hops)) open_still = (expected.Via, refl)
refuses c (line.Service (service.Via kind name address hops)) open_still = (expected.Node, refl)
refuses c (line.Service (service.Whole it)) open_still = absurd cc
refuses c (line.Origins has_some) open_still = (expected.Origin, refl)
refuses c (line.Peer None) open_still = (expected.Remote, refl)
refuses c (line.Peer (Some place)) open_still = absurd cc
