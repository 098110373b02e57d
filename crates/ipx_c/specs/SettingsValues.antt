-- What a line of a configuration says, as C knows it.
use Rattle.std.specs.Prelude.{ℕ, Bool, true, false, ◌==◌, if◌then◌else◌, List, [], ◌∷◌, replicate, Option, None, Some}
use Rattle.std.specs.Option.{is_some, unwrap_or}
use Rattle.ipx_settings.specs.Addresses.{four_at}
use Rattle.ipx_settings.specs.Internals.{internal_number, internal_node}
use Rattle.ipx_settings.specs.Networks.{number_in, head_in, link_in, node_in}
use Rattle.ipx_settings.specs.declared.addresses.Address.{Address}
use Rattle.ipx_settings.specs.declared.addresses.Host.{Host}
use Rattle.ipx_settings.specs.declared.addresses.Host.TheVariants.{Four, Six}
use Rattle.ipx_settings.specs.declared.addresses.Place.{Place}
use Rattle.ipx_settings.specs.declared.addresses.Place.TheVariants.{At, Named}
use Rattle.ipx_settings.specs.declared.expected.Expected.{Expected}
use Rattle.ipx_settings.specs.declared.expected.Expected.TheVariants as expected
use Rattle.ipx_settings.specs.declared.internal.InternalBegun.{InternalBegun}
use Rattle.ipx_settings.specs.declared.line.ClientsBegun.TheVariants as clients
use Rattle.ipx_settings.specs.declared.line.Context.{Context}
use Rattle.ipx_settings.specs.declared.line.Line.{Line}
use Rattle.ipx_settings.specs.declared.line.Line.TheVariants as line
use Rattle.ipx_settings.specs.declared.line.RateBegun.TheVariants as rate
use Rattle.ipx_settings.specs.declared.link.Cards.{Cards}
use Rattle.ipx_settings.specs.declared.link.Cards.TheVariants as has
use Rattle.ipx_settings.specs.declared.link.End.{End}
use Rattle.ipx_settings.specs.declared.link.End.TheVariants as ends
use Rattle.ipx_settings.specs.declared.link.Frames.{Frames}
use Rattle.ipx_settings.specs.declared.link.Frames.TheVariants.{Ethernet2, Raw, Llc, Snap, Any}
use Rattle.ipx_settings.specs.declared.link.Link.TheVariants as link
use Rattle.ipx_settings.specs.declared.link.LinkBegun.{LinkBegun}
use Rattle.ipx_settings.specs.declared.link.LinkBegun.TheVariants as begun
use Rattle.ipx_settings.specs.declared.network.Head.{Head}
use Rattle.ipx_settings.specs.declared.network.NetworkBegun.{NetworkBegun}
use Rattle.ipx_settings.specs.declared.network.NetworkBegun.TheVariants as network
use Rattle.ipx_settings.specs.declared.network.Shares.{Shares}
use Rattle.ipx_settings.specs.declared.reading.Reading.{Reading}
use Rattle.ipx_configuration.specs.Rules.{no_rule, rule_in}
use Rattle.ipx_configuration.specs.Statics.{no_route, route_in, no_service, service_in}
use Rattle.ipx_configuration.specs.declared.rules.RuleSaid.{RuleSaid}
use Rattle.ipx_configuration.specs.declared.statics.StaticRouteSaid.{StaticRouteSaid}
use Rattle.ipx_configuration.specs.declared.statics.StaticServiceSaid.{StaticServiceSaid}
use Rattle.ipx_c.specs.declared.settings_values.HostValues.{HostValues}
use Rattle.ipx_c.specs.declared.settings_values.LineSaid.{LineSaid}
use Rattle.ipx_c.specs.declared.settings_values.LinkSaid.{LinkSaid}
use Rattle.ipx_c.specs.declared.settings_values.NetworkSaid.{NetworkSaid}

-- which cards a system has, by its number; those behind it are that of all
abbrev pub cards_of : ℕ → Cards
cards_of number = if number == 0 then has.None else if number == 2 then has.Interfaces else has.All

abbrev pub context_of : Cards → Bool → ℕ → Context
context_of cards is_below_tunnel most_clients = record { cards = cards; is_below_tunnel = is_below_tunnel; most_clients = most_clients }

-- the largest number of 32 bits
abbrev pub most_u32 : ℕ
most_u32 = 4294967295

-- ---- addresses

abbrev pub host_at : List ℕ → List ℕ → ℕ → Bool → HostValues
host_at four six port is_six = record { four = four; six = six; port = port; is_six = is_six }

abbrev pub no_four : List ℕ
no_four = replicate 4 0

abbrev pub no_six : List ℕ
no_six = replicate 8 0

abbrev pub no_host : HostValues
no_host = host_at no_four no_six 0 false

abbrev pub host_by : Host → ℕ → HostValues
host_by (Four four) port = host_at four no_six port false
host_by (Six six) port = host_at no_four six port true

abbrev pub host_values : Address → HostValues
host_values address = host_by address.host address.port

abbrev pub place_values : Place → HostValues
place_values (At address) = host_values address
place_values (Named name port) = host_at no_four no_six port false

abbrev pub no_name : List ℕ
no_name = replicate 254 0

abbrev pub place_name : Place → List ℕ
place_name (At address) = no_name
place_name (Named name port) = name

-- ---- links

-- the numbers of frames, as everywhere; behind them any of them
abbrev pub frames_number : Frames → ℕ
frames_number Ethernet2 = 1
frames_number Raw = 2
frames_number Llc = 3
frames_number Snap = 4
frames_number Any = 5

abbrev pub link_at : ℕ → ℕ → Bool → HostValues → HostValues → List ℕ → List ℕ → LinkSaid
link_at carrier frames has_word local remote host name =
    record { carrier = carrier; frames = frames; has_word = has_word; local = local; remote = remote; host = host; name = name }

abbrev pub no_card : List ℕ
no_card = replicate 16 0

-- a link of which no word was read, or not all
abbrev pub no_link : Bool → LinkSaid
no_link has_word = link_at 0 0 has_word no_host no_host no_name no_card

abbrev pub end_values : End → ℕ → LinkSaid
end_values (ends.Udp local remote) frames = link_at 2 frames true (host_values local) (place_values remote) (place_name remote) no_card
end_values (ends.Listen local) frames = link_at 3 frames true (host_values local) no_host no_name no_card
end_values (ends.Connect remote) frames = link_at 4 frames true no_host (place_values remote) (place_name remote) no_card
end_values (ends.Tap name) frames = link_at 5 frames true no_host no_host no_name name
end_values (ends.Interface name) frames = link_at 6 frames true no_host no_host no_name name
end_values (ends.Group group card) frames = link_at 7 frames true (host_values (four_at card 0)) (host_values group) no_name no_card
end_values (ends.Web local) frames = link_at 9 frames true (host_values local) no_host no_name no_card
end_values (ends.Switch path) frames = link_at 8 frames true no_host no_host path no_card
end_values (ends.Peers local file) frames = link_at 10 frames true (host_values local) no_host file no_card

abbrev pub link_values : LinkBegun → LinkSaid
link_values (begun.Whole (link.Tunnel local)) = link_at 1 0 true (host_values local) no_host no_name no_card
link_values (begun.Whole (link.Web local)) = link_at 9 0 true (host_values local) no_host no_name no_card
link_values (begun.Whole (link.Rfc1234 local)) = link_at 11 0 true (host_values local) no_host no_name no_card
link_values (begun.Whole (link.Framed end frames)) = end_values end (frames_number frames)
link_values begun.Nothing = no_link false
link_values other = no_link true

-- ---- networks

abbrev pub routes_of : Option Shares → ℕ
routes_of None = 0
routes_of (Some shares) = shares.routes

abbrev pub services_of : Option Shares → ℕ
services_of None = 0
services_of (Some shares) = shares.services

abbrev pub no_head : Head
no_head = record { number = 0; cost = 0; longest = 0; shares = None }

abbrev pub network_by : Option ℕ → Option Head → Option (List ℕ) → NetworkSaid
network_by number head node = record {
  number = unwrap_or number 0;
  has_head = is_some head;
  has_shares = is_some (unwrap_or head no_head).shares;
  cost = (unwrap_or head no_head).cost;
  longest = (unwrap_or head no_head).longest;
  routes = routes_of (unwrap_or head no_head).shares;
  services = services_of (unwrap_or head no_head).shares;
  has_node = is_some node;
  node = unwrap_or node (replicate 6 0);
}

abbrev pub network_values : NetworkBegun → NetworkSaid
network_values begun = network_by (number_in begun) (head_in begun) (node_in begun)

-- the router's own network has a number and a node
abbrev pub internal_values : InternalBegun → NetworkSaid
internal_values begun = network_by (internal_number begun) None (internal_node begun)

-- ---- lines

-- the word that begins a line
abbrev pub line_number : Line → ℕ
line_number line.Nothing = 0
line_number (line.Network begun) = 1
line_number (line.Link begun) = 2
line_number (line.Extend has_some) = 3
line_number (line.Clients begun) = 4
line_number (line.Allow has_some) = 5
line_number (line.Trust has_some) = 6
line_number (line.Rate begun) = 7
line_number (line.Strangers begun) = 8
line_number (line.Kilobits begun) = 9
line_number (line.Nodes by_address) = 10
line_number (line.Internal begun) = 11
line_number (line.Adopt is_off) = 12
line_number (line.Rule true begun) = 13
line_number (line.Rule false begun) = 14
line_number (line.Route begun) = 15
line_number (line.Service begun) = 16
line_number (line.Origins has_some) = 17
line_number (line.Peer begun) = 18

abbrev pub three : ℕ → ℕ → ℕ → List ℕ
three a b c = a ∷ b ∷ c ∷ []

-- the numbers that a line says; what isn't said is 0
abbrev pub numbers_of : Line → List ℕ
numbers_of (line.Clients (clients.All n)) = three n 0 0
numbers_of (line.Clients (clients.OfAddress n m)) = three n m 0
numbers_of (line.Rate (rate.Rate r)) = three r 0 0
numbers_of (line.Rate (rate.Share r share)) = three r share 0
numbers_of (line.Rate (rate.Household r share household)) = three r share household
numbers_of (line.Strangers (Some r)) = three r 0 0
numbers_of (line.Kilobits (Some n)) = three n 0 0
numbers_of other = three 0 0 0

-- (of another place, where it is)
abbrev pub link_of_line : Line → LinkSaid
link_of_line (line.Network begun) = link_values (link_in begun)
link_of_line (line.Link begun) = link_values begun
link_of_line (line.Peer (Some place)) = link_at 0 0 false no_host (place_values place) (place_name place) no_card
link_of_line other = no_link false

abbrev pub network_of_line : Line → NetworkSaid
network_of_line (line.Network begun) = network_values begun
network_of_line (line.Internal begun) = internal_values begun
network_of_line other = network_values network.Nothing

abbrev pub rule_of_line : Line → RuleSaid
rule_of_line (line.Rule permits begun) = rule_in permits begun
rule_of_line other = no_rule

-- a route and a service have the number of no line here
abbrev pub route_of_line : Line → StaticRouteSaid
route_of_line (line.Route begun) = route_in 0 begun
route_of_line other = no_route

abbrev pub service_of_line : Line → StaticServiceSaid
service_of_line (line.Service begun) = service_in 0 begun
service_of_line other = no_service

-- what was expected in lines that came later
abbrev pub later_number : Option Expected → ℕ
later_number (Some expected.ByAddress) = 52
later_number (Some expected.No) = 53
later_number (Some expected.Rule) = 54
later_number (Some expected.PacketType) = 55
later_number (Some expected.Networks) = 56
later_number (Some expected.Way) = 57
later_number (Some expected.ServiceType) = 58
later_number (Some expected.ServiceNames) = 59
later_number (Some expected.Destination) = 61
later_number (Some expected.Hops) = 62
later_number (Some expected.Ticks) = 63
later_number (Some expected.Via) = 64
later_number (Some expected.OneType) = 65
later_number (Some expected.ServiceName) = 66
later_number (Some expected.ServiceAddress) = 67
later_number (Some expected.Group) = 71
later_number (Some expected.ViaOrFrames) = 72
later_number (Some expected.Card) = 73
later_number (Some expected.Switch) = 74
later_number (Some expected.FramesOrNothing) = 75
later_number (Some expected.Origin) = 76
later_number (Some expected.KeyFile) = 78
later_number (Some expected.CardAndPort) = 79
later_number other = 0

-- what was expected; 0 where nothing is wrong (32 to 51 are those of lines together)
abbrev pub expected_number : Option Expected → ℕ
expected_number None = 0
expected_number (Some expected.Line) = 1
expected_number (Some expected.Network) = 2
expected_number (Some expected.Cost) = 3
expected_number (Some expected.Longest) = 4
expected_number (Some expected.Routes) = 5
expected_number (Some expected.Services) = 6
expected_number (Some expected.Link) = 7
expected_number (Some expected.LinkOfSystem) = 8
expected_number (Some expected.Address) = 9
expected_number (Some expected.AddressOfFour) = 10
expected_number (Some expected.Remote) = 11
expected_number (Some expected.RemoteOfFour) = 12
expected_number (Some expected.RemoteOfSix) = 13
expected_number (Some expected.Connection) = 14
expected_number (Some expected.Tap) = 15
expected_number (Some expected.Interface) = 16
expected_number (Some expected.Frames) = 17
expected_number (Some expected.NodeWord) = 18
expected_number (Some expected.Node) = 19
expected_number (Some expected.Nothing) = 20
expected_number (Some expected.Socket) = 21
expected_number (Some expected.Clients) = 22
expected_number (Some expected.ClientsOfAddress) = 23
expected_number (Some expected.Rate) = 24
expected_number (Some expected.Share) = 25
expected_number (Some expected.Household) = 26
expected_number (Some expected.Strangers) = 27
expected_number (Some expected.Kilobits) = 28
expected_number (Some expected.Range) = 29
expected_number (Some (expected.FirstOf bits)) = 30
expected_number (Some expected.FewerWords) = 31
expected_number other = later_number other

-- the bits of a range whose address isn't its first
abbrev pub bits_of : Option Expected → ℕ
bits_of (Some (expected.FirstOf bits)) = bits
bits_of other = 0

abbrev pub line_said : Reading → LineSaid
line_said r = record {
  read = r.read;
  kind = line_number r.line;
  bits = bits_of r.fault;
  network = network_of_line r.line;
  link = link_of_line r.line;
  numbers = numbers_of r.line;
  rule = rule_of_line r.line;
  route = route_of_line r.line;
  service = service_of_line r.line;
}
