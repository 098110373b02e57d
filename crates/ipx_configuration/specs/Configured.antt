-- What all lines say of a link.
use Rattle.std.specs.Prelude.{ℕ, ◌*◌, Bool, ◌==◌, ◌&&◌, if◌then◌else◌, nat_lt, List, Option, Some, slice_get}
use Rattle.std.specs.List.{list_any}
use Rattle.ipx_settings.specs.Cutting.{◌>>=◌}
use Rattle.ipx_configuration.specs.Carriers.{has_clients}
use Rattle.ipx_configuration.specs.Lines.{clients_at, rate_whole, usual_share, usual_household, rate_of}
use Rattle.ipx_configuration.specs.Memory.{networks_in, links_in}
use Rattle.ipx_configuration.specs.declared.configuration.Capacity.{Capacity}
use Rattle.ipx_configuration.specs.declared.configuration.Configuration.{Configuration}
use Rattle.ipx_configuration.specs.declared.configured.LinkConfigured.{LinkConfigured}
use Rattle.ipx_configuration.specs.declared.said.ClientsSaid.{ClientsSaid}
use Rattle.ipx_configuration.specs.declared.said.LinkSetting.{LinkSetting}
use Rattle.ipx_configuration.specs.declared.said.NetworkSetting.{NetworkSetting}
use Rattle.ipx_configuration.specs.declared.said.NumberSaid.{NumberSaid}
use Rattle.ipx_configuration.specs.declared.said.RateSaid.{RateSaid}

-- ---- what holds where no line says it

abbrev pub usual_clients : ℕ
usual_clients = 256

abbrev pub usual_rate : ℕ
usual_rate = 800

abbrev pub usual_strangers : ℕ
usual_strangers = 100

abbrev pub no_limit : ℕ
no_limit = 65535

abbrev pub clients_or_usual : ClientsSaid → ClientsSaid
clients_or_usual said = if nat_lt 0 said.line then said else clients_at 0 usual_clients usual_clients

abbrev pub rate_or_usual : RateSaid → RateSaid
rate_or_usual said = if nat_lt 0 said.line then said else rate_whole 0 usual_rate usual_share (usual_household * usual_rate)

abbrev pub strangers_or_usual : NumberSaid → ℕ
strangers_or_usual said = if nat_lt 0 said.line then said.number else usual_strangers

-- ---- shares of the tables

-- the link is one of that network's, and has clients
abbrev pub is_tunnel_of : ℕ → LinkSetting → Bool
is_tunnel_of port link = (link.network == port) && has_clients link.carrier

abbrev pub has_tunnel : ℕ → List LinkSetting → Bool
has_tunnel port links = list_any (is_tunnel_of port) links

-- those that its line says; else those of networks with clients where one of its links has some
abbrev pub shares_of : Capacity → NetworkSetting → ℕ → List LinkSetting → ℕ × ℕ
shares_of capacity network port links =
    if network.has_shares then (network.routes, network.services)
    else if has_tunnel port links then (capacity.routes, capacity.services)
    else (no_limit, no_limit)

-- ---- a link with its network

abbrev pub configured_at : LinkSetting → NetworkSetting → ℕ × ℕ → RateSaid → LinkConfigured
configured_at link network shares shared = record {
  line = link.line;
  network_line = network.line;
  port = link.network;
  number = network.number;
  cost = network.cost;
  longest = network.longest;
  routes = shares.0;
  services = shares.1;
  is_of_several = network.is_of_several;
  has_node = network.has_node;
  node = network.node;
  carrier = link.carrier;
  clients = (clients_or_usual link.clients).all;
  of_address = (clients_or_usual link.clients).of_address;
  rate = (rate_or_usual shared).rate;
  share = (rate_or_usual shared).share;
  household = (rate_or_usual link.rate).household;
  strangers = strangers_or_usual link.strangers;
  kilobits = link.kilobits.number;
  sockets = network.sockets;
  allowed = link.allowed;
  trusted = link.trusted;
  origins = link.origins;
  nodes_by_address = nat_lt 0 link.nodes_line;
  adopts = network.adopt_line == 0;
  rules = network.rules;
  static_routes = network.static_routes;
  static_services = network.static_services;
  peers = network.peers;
}

abbrev pub configured_by : Capacity → LinkSetting → List LinkSetting → NetworkSetting → LinkConfigured
configured_by capacity link links network = configured_at link network (shares_of capacity network link.network links) (rate_of link links)

-- what all lines say of the link with that number
abbrev pub configured : Capacity → ℕ → Configuration → Option LinkConfigured
configured capacity number c =
    slice_get (links_in c.links) number >>= λ link. slice_get (networks_in c.networks) link.network >>= λ network.
    Some (configured_by capacity link (links_in c.links) network)
