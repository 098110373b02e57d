-- A configuration, line by line.
use Rattle.std.specs.Prelude.{ℕ, ◌-◌, Bool, true, false, not, ◌==◌, ◌&&◌, if◌then◌else◌, nat_lt, List, [], ◌∷◌, replicate, Option, Some, None, slice_get}
use Rattle.std.specs.List.{position}
use Rattle.std.specs.Option.{is_some, unwrap_or, option_map}
use Rattle.ipx_settings.specs.Cutting.{◌>>=◌}
use Rattle.ipx_settings.specs.Internals.{internal_number}
use Rattle.ipx_settings.specs.Lines.{reading_of}
use Rattle.ipx_settings.specs.Networks.{number_in, head_in, link_in, node_in}
use Rattle.ipx_settings.specs.Statics.{route_to}
use Rattle.ipx_settings.specs.declared.addresses.Place.{Place}
use Rattle.ipx_settings.specs.declared.expected.Expected.{Expected}
use Rattle.ipx_settings.specs.declared.expected.Expected.TheVariants as expected
use Rattle.ipx_settings.specs.declared.internal.InternalBegun.{InternalBegun}
use Rattle.ipx_settings.specs.declared.line.Context.{Context}
use Rattle.ipx_settings.specs.declared.line.Line.{Line}
use Rattle.ipx_settings.specs.declared.line.Line.TheVariants as line
use Rattle.ipx_settings.specs.declared.link.LinkBegun.{LinkBegun}
use Rattle.ipx_settings.specs.declared.link.LinkBegun.TheVariants as begun
use Rattle.ipx_settings.specs.declared.network.Head.{Head}
use Rattle.ipx_settings.specs.declared.network.NetworkBegun.{NetworkBegun}
use Rattle.ipx_settings.specs.declared.network.Shares.{Shares}
use Rattle.ipx_settings.specs.declared.reading.Reading.{Reading}
use Rattle.ipx_settings.specs.declared.statics.RouteBegun.{RouteBegun}
use Rattle.ipx_configuration.specs.Carriers.{web, has_clients, is_with_peers}
use Rattle.ipx_configuration.specs.Clashes.{first_of, when, line_fault, carrier_in, is_only, link_fault}
use Rattle.ipx_configuration.specs.Extends.{network_taken}
use Rattle.ipx_configuration.specs.Internals.{is_said, is_full, internal_clash, internal_said}
use Rattle.ipx_configuration.specs.Lines.{link_taken}
use Rattle.ipx_configuration.specs.Memory.{most_links, networks_in, links_in, last_network, last_link, with_network, with_link, with_last_network, with_last_link}
use Rattle.ipx_configuration.specs.Numbers.{number_fault, routed_fault}
use Rattle.ipx_configuration.specs.Peers.{no_peers, unlike}
use Rattle.ipx_configuration.specs.Rules.{no_rules}
use Rattle.ipx_configuration.specs.Said.{no_sockets, new_link}
use Rattle.ipx_configuration.specs.Statics.{no_routes, no_services}
use Rattle.ipx_configuration.specs.declared.carrier.Carrier.{Carrier}
use Rattle.ipx_configuration.specs.declared.configuration.Capacity.{Capacity}
use Rattle.ipx_configuration.specs.declared.configuration.Configuration.{Configuration}
use Rattle.ipx_configuration.specs.declared.configuration.Told.{Told}
use Rattle.ipx_configuration.specs.declared.fault.Fault.{Fault}
use Rattle.ipx_configuration.specs.declared.fault.Fault.TheVariants as fault
use Rattle.ipx_configuration.specs.declared.memory.LinkList.{LinkList}
use Rattle.ipx_configuration.specs.declared.memory.NetworkList.{NetworkList}
use Rattle.ipx_configuration.specs.declared.said.InternalSaid.{InternalSaid}
use Rattle.ipx_configuration.specs.declared.said.LinkSetting.{LinkSetting}
use Rattle.ipx_configuration.specs.declared.said.NetworkSetting.{NetworkSetting}

-- ---- what a line stands below

-- nothing, or the router's own network; a network that has no link yet; a link; a link that is wrong; a network that is wrong
abbrev pub nothing : ℕ
nothing = 0

abbrev pub a_network : ℕ
a_network = 1

abbrev pub a_link : ℕ
a_link = 2

abbrev pub a_wrong_link : ℕ
a_wrong_link = 3

abbrev pub a_wrong_network : ℕ
a_wrong_network = 4

abbrev pub configuration_at : NetworkList → LinkList → InternalSaid → ℕ → Configuration
configuration_at networks links internal above = record { networks = networks; links = links; internal = internal; above = above }

abbrev pub with_above : Configuration → ℕ → Configuration
with_above c above = configuration_at c.networks c.links c.internal above

abbrev pub is_tunnel : Option LinkSetting → Bool
is_tunnel None = false
is_tunnel (Some link) = has_clients link.carrier

-- the next line stands below a tunnel
abbrev pub is_below_tunnel : Configuration → Bool
is_below_tunnel c = (c.above == a_link) && is_tunnel (last_link c.links)

abbrev pub is_web : Option LinkSetting → Bool
is_web None = false
is_web (Some link) = link.carrier.number == web

-- the line of the last network, if it has no link
abbrev pub unlinked : Configuration → Option ℕ
unlinked c = if c.above == a_network then option_map (λ network. network.line) (last_network c.networks) else None

-- ---- the line of a network

abbrev pub no_head : Head
no_head = record { number = 0; cost = 0; longest = 0; shares = None }

abbrev pub head_or_none : NetworkBegun → Head
head_or_none begun = unwrap_or (head_in begun) no_head

-- a link was expected where the line is wrong
abbrev pub expects_link : Option Expected → Bool
expects_link (Some expected.Link) = true
expects_link (Some expected.LinkOfSystem) = true
expects_link other = false

abbrev pub names_link_by : LinkBegun → Option Expected → Bool
names_link_by begun.Nothing own = expects_link own
names_link_by other own = true

-- it goes on with a link, right or wrong
abbrev pub names_link : NetworkBegun → Option Expected → Bool
names_link begun own = names_link_by (link_in begun) own

abbrev pub routes_of : Option Shares → ℕ
routes_of None = 0
routes_of (Some shares) = shares.routes

abbrev pub services_of : Option Shares → ℕ
services_of None = 0
services_of (Some shares) = shares.services

abbrev pub network_by : ℕ → ℕ → Head → Option (List ℕ) → Bool → NetworkSetting
network_by line first head node is_of_several = record {
  line = line;
  first = first;
  has_link = not is_of_several;
  number = head.number;
  cost = head.cost;
  longest = head.longest;
  has_shares = is_some head.shares;
  routes = routes_of head.shares;
  services = services_of head.shares;
  is_of_several = is_of_several;
  has_node = is_some node;
  node = unwrap_or node (replicate 6 0);
  sockets = no_sockets;
  adopt_line = 0;
  rules = no_rules;
  static_routes = no_routes;
  static_services = no_services;
  peers = no_peers;
}

abbrev pub network_of : ℕ → ℕ → NetworkBegun → Bool → NetworkSetting
network_of line first begun is_of_several = network_by line first (head_or_none begun) (node_in begun) is_of_several

-- what is wrong with one more link
abbrev pub more_links : ℕ → LinkBegun → ℕ → LinkList → Option Expected → Option Fault
more_links network begun longest l own =
    first_of (when (not (nat_lt l.count most_links)) fault.ManyLinks ∷ link_fault network begun longest (links_in l) own ∷ [])

-- and with one more network
abbrev pub network_fault : Capacity → NetworkBegun → Option Expected → Configuration → Option Fault
network_fault capacity begun own c =
    first_of (
    when (is_full capacity c) fault.ManyNetworks
    ∷ number_fault (number_in begun) (networks_in c.networks)
    ∷ internal_clash (number_in begun) c.internal
    ∷ routed_fault (number_in begun) (networks_in c.networks)
    ∷ (if names_link begun own then more_links c.networks.count (link_in begun) (head_or_none begun).longest c.links own else line_fault own)
    ∷ [])

abbrev pub linked : ℕ → ℕ → LinkList → Option Carrier → LinkList
linked line network l None = l
linked line network l (Some carrier) = with_link l (new_link line network carrier)

-- a network more, with its link if its line names one
abbrev pub add_network : ℕ → NetworkBegun → Option Expected → Configuration → Configuration
add_network line begun own c =
    configuration_at
    (with_network c.networks (network_of line c.links.count begun (not (names_link begun own))))
    (linked line c.networks.count c.links (carrier_in (link_in begun)))
    c.internal
    (if names_link begun own then a_link else a_network)

abbrev pub after_network : Capacity → ℕ → NetworkBegun → Option Expected → Configuration → Configuration
after_network capacity line begun own c =
    if is_some (network_fault capacity begun own c) then with_above c a_wrong_network else add_network line begun own c

-- ---- the line of the router's own network

abbrev pub internal_fault : Capacity → InternalBegun → Option Expected → Configuration → Option Fault
internal_fault capacity begun own c =
    first_of (
    when (is_said c.internal) (fault.Once c.internal.line)
    ∷ when (is_full capacity c) fault.ManyNetworks
    ∷ number_fault (internal_number begun) (networks_in c.networks)
    ∷ routed_fault (internal_number begun) (networks_in c.networks)
    ∷ line_fault own
    ∷ [])

-- (nothing stands below it)
abbrev pub after_internal : Capacity → ℕ → InternalBegun → Option Expected → Configuration → Configuration
after_internal capacity line begun own c =
    if is_some (internal_fault capacity begun own c) then with_above c nothing
    else configuration_at c.networks c.links (internal_said line begun) nothing

-- ---- the line of a link

-- the network that it would be of
abbrev pub network_above : Configuration → Option NetworkSetting
network_above c = if c.above == nothing then None else last_network c.networks

abbrev pub link_line_by : Capacity → ℕ → LinkBegun → Option Expected → LinkList → Option NetworkSetting → Option Fault
link_line_by capacity number begun own l None = Some fault.LinkBelow
link_line_by capacity number begun own l (Some network) =
    first_of (
    when (not network.is_of_several) fault.LinkBelow
    ∷ when (is_only begun) fault.OnOwnLine
    ∷ when (not (nat_lt (l.count - network.first) capacity.links)) fault.ManyLinksOfNetwork
    ∷ more_links number begun network.longest l own
    ∷ [])

abbrev pub link_line_fault : Capacity → LinkBegun → Option Expected → Configuration → Option Fault
link_line_fault capacity begun own c = link_line_by capacity (c.networks.count - 1) begun own c.links (network_above c)

abbrev pub with_a_link : NetworkSetting → NetworkSetting
with_a_link n = record {
  line = n.line;
  first = n.first;
  has_link = true;
  number = n.number;
  cost = n.cost;
  longest = n.longest;
  has_shares = n.has_shares;
  routes = n.routes;
  services = n.services;
  is_of_several = n.is_of_several;
  has_node = n.has_node;
  node = n.node;
  sockets = n.sockets;
  adopt_line = n.adopt_line;
  rules = n.rules;
  static_routes = n.static_routes;
  static_services = n.static_services;
  peers = n.peers;
}

abbrev pub now_linked : NetworkList → Option NetworkSetting → NetworkList
now_linked n None = n
now_linked n (Some network) = with_last_network n (with_a_link network)

-- a link more of the last network
abbrev pub add_link : ℕ → LinkBegun → Configuration → Configuration
add_link line begun c =
    configuration_at (now_linked c.networks (last_network c.networks)) (linked line (c.networks.count - 1) c.links (carrier_in begun)) c.internal a_link

-- (what stands below a network that is wrong isn't looked at)
abbrev pub link_line : Capacity → ℕ → LinkBegun → Option Expected → Configuration → Configuration × Option Fault
link_line capacity line begun own c =
    if nat_lt c.above a_wrong_network then
    (if is_some (link_line_fault capacity begun own c) then with_above c a_wrong_link else add_link line begun c, link_line_fault capacity begun own c)
    else (c, None)

-- ---- lines below

abbrev pub extended_by : Configuration → ℕ → List ℕ → Reading → Option NetworkSetting → Configuration × Option Fault
extended_by c line text r None = (c, None)
extended_by c line text r (Some network) =
    (configuration_at (with_last_network c.networks (network_taken line text r network).0) c.links c.internal c.above, (network_taken line text r network).1)

-- behind a line that the last network takes
abbrev pub extended : ℕ → List ℕ → Reading → Configuration → Configuration × Option Fault
extended line text r c = extended_by c line text r (last_network c.networks)

-- a network has the number where a route leads
abbrev pub route_clash : RouteBegun → Configuration → Option Fault
route_clash begun c =
    first_of (number_fault (route_to begun) (networks_in c.networks) ∷ internal_clash (route_to begun) c.internal ∷ [])

-- behind the line of a route by way of a node on the last network
abbrev pub routed : ℕ → List ℕ → Reading → RouteBegun → Configuration → Configuration × Option Fault
routed line text r begun c = if is_some (route_clash begun c) then (c, route_clash begun c) else extended line text r c

-- the link of the last network that is with its other places
abbrev pub is_with_places : ℕ → LinkSetting → Bool
is_with_places network link = (link.network == network) && is_with_peers link.carrier

abbrev pub peers_link : Configuration → Option LinkSetting
peers_link c = position (is_with_places (c.networks.count - 1)) (links_in c.links) >>= λ k. slice_get (links_in c.links) k

abbrev pub peer_clash_by : Option LinkSetting → Option Place → Option Fault
peer_clash_by None begun = Some fault.BelowPeers
peer_clash_by (Some link) begun = begun >>= λ place. unlike link.carrier.local place

-- there is none, or it can't reach the place
abbrev pub peer_clash : Option Place → Configuration → Option Fault
peer_clash begun c = peer_clash_by (peers_link c) begun

-- behind the line of another place of the last network
abbrev pub peered : ℕ → List ℕ → Reading → Option Place → Configuration → Configuration × Option Fault
peered line text r begun c = if is_some (peer_clash begun c) then (c, peer_clash begun c) else extended line text r c

abbrev pub link_extended_by : Configuration → ℕ → List ℕ → Reading → Option LinkSetting → Configuration × Option Fault
link_extended_by c line text r None = (c, None)
link_extended_by c line text r (Some link) = (
  configuration_at c.networks (with_last_link c.links (link_taken line text r (links_in c.links) link).0) c.internal c.above,
  (link_taken line text r (links_in c.links) link).1,
)

-- behind a line that the last link takes
abbrev pub link_extended : ℕ → List ℕ → Reading → Configuration → Configuration × Option Fault
link_extended line text r c = link_extended_by c line text r (last_link c.links)

-- behind a line of origins below a link
abbrev pub origins_below : ℕ → List ℕ → Reading → Configuration → Configuration × Option Fault
origins_below line text r c = if is_web (last_link c.links) then link_extended line text r c else (c, Some fault.BelowWeb)

abbrev pub tunnel_fault_by : Option NetworkSetting → Fault
tunnel_fault_by None = fault.BelowTunnel
tunnel_fault_by (Some network) = if network.is_of_several then fault.BelowTunnelLink else fault.BelowTunnel

abbrev pub tunnel_fault : Configuration → Fault
tunnel_fault c = tunnel_fault_by (last_network c.networks)

abbrev pub below_network_by : ℕ → List ℕ → Reading → Line → Configuration → Configuration × Option Fault
below_network_by n text r (line.Extend has_some) c = extended n text r c
below_network_by n text r (line.Adopt is_off) c = extended n text r c
below_network_by n text r (line.Rule permits begun) c = extended n text r c
below_network_by n text r (line.Route begun) c = routed n text r begun c
below_network_by n text r (line.Service begun) c = extended n text r c
below_network_by n text r (line.Rate begun) c = (c, Some fault.BelowLink)
below_network_by n text r (line.Origins has_some) c = (c, Some fault.BelowWeb)
below_network_by n text r (line.Peer begun) c = (c, Some fault.BelowPeers)
below_network_by n text r other c = (c, Some fault.BelowTunnelLink)

abbrev pub below_network : ℕ → List ℕ → Reading → Configuration → Configuration × Option Fault
below_network n text r c = below_network_by n text r r.line c

abbrev pub below_link_by : ℕ → List ℕ → Reading → Line → Configuration → Configuration × Option Fault
below_link_by n text r (line.Extend has_some) c = extended n text r c
below_link_by n text r (line.Adopt is_off) c = extended n text r c
below_link_by n text r (line.Rule permits begun) c = extended n text r c
below_link_by n text r (line.Route begun) c = routed n text r begun c
below_link_by n text r (line.Service begun) c = extended n text r c
below_link_by n text r (line.Rate begun) c = link_extended n text r c
below_link_by n text r (line.Origins has_some) c = origins_below n text r c
below_link_by n text r (line.Peer begun) c = peered n text r begun c
below_link_by n text r other c = if is_below_tunnel c then link_extended n text r c else (c, Some (tunnel_fault c))

abbrev pub below_link : ℕ → List ℕ → Reading → Configuration → Configuration × Option Fault
below_link n text r c = below_link_by n text r r.line c

-- a line that is neither a network's nor a link's, by what it stands below; below what is wrong it isn't looked at
abbrev pub taken_below : ℕ → List ℕ → Reading → Configuration → Configuration × Option Fault
taken_below n text r c =
    if c.above == nothing then (c, Some fault.BelowNetwork)
    else if c.above == a_network then below_network n text r c
    else if c.above == a_link then below_link n text r c
    else (c, None)

-- ---- all lines

abbrev pub taken_by : Capacity → ℕ → List ℕ → Reading → Line → Configuration → Configuration × Option Fault
taken_by capacity n text r line.Nothing c = (c, line_fault r.fault)
taken_by capacity n text r (line.Network begun) c = (after_network capacity n begun r.fault c, network_fault capacity begun r.fault c)
taken_by capacity n text r (line.Link begun) c = link_line capacity n begun r.fault c
taken_by capacity n text r (line.Internal begun) c = (after_internal capacity n begun r.fault c, internal_fault capacity begun r.fault c)
taken_by capacity n text r other c = taken_below n text r c

abbrev pub taken : Capacity → ℕ → List ℕ → Reading → Configuration → Configuration × Option Fault
taken capacity n text r c = taken_by capacity n text r r.line c

abbrev pub context_of : Capacity → Configuration → Context
context_of capacity c = record { cards = capacity.cards; is_below_tunnel = is_below_tunnel c; most_clients = capacity.clients }

-- the next line as its words say it
abbrev pub read_in : Capacity → List ℕ → Configuration → Reading
read_in capacity text c = reading_of (context_of capacity c) text

abbrev pub unlinked_by : Line → Configuration → Option ℕ
unlinked_by (line.Network begun) c = unlinked c
unlinked_by (line.Internal begun) c = unlinked c
unlinked_by other c = None

abbrev pub told_at : Reading → Option ℕ → Option Fault → Told
told_at r unlinked fault = record { reading = r; unlinked = unlinked; fault = fault }

abbrev pub told_by : Capacity → ℕ → List ℕ → Reading → Configuration → Told
told_by capacity n text r c = told_at r (unlinked_by r.line c) (taken capacity n text r c).1

-- what is told of a line, and what all say behind it
abbrev pub told : Capacity → ℕ → List ℕ → Configuration → Told
told capacity n text c = told_by capacity n text (read_in capacity text c) c

abbrev pub after : Capacity → ℕ → List ℕ → Configuration → Configuration
after capacity n text c = (taken capacity n text (read_in capacity text c) c).0
