-- The other places of a network.
use Rattle.std.specs.Prelude.{ℕ, ◌+◌, Bool, not, ◌&&◌, nat_lt, if◌then◌else◌, List, [], ◌∷◌, take, replicate, Option, Some, None, slice_get, slice_set}
use Rattle.std.specs.List.{position}
use Rattle.std.specs.Option.{option_map}
use Rattle.std.specs.Str.{bytes_eq}
use Rattle.ipx_settings.specs.Cutting.{◌>>=◌}
use Rattle.ipx_settings.specs.Links.{is_six}
use Rattle.ipx_settings.specs.declared.addresses.Place.{Place}
use Rattle.ipx_settings.specs.declared.addresses.Place.TheVariants.{At, Named}
use Rattle.ipx_settings.specs.declared.expected.Expected.{Expected}
use Rattle.ipx_configuration.specs.Carriers.{no_host, place_at, place_name}
use Rattle.ipx_configuration.specs.Clashes.{first_of, when, line_fault}
use Rattle.ipx_configuration.specs.Endpoints.{no_endpoint, same_endpoint}
use Rattle.ipx_configuration.specs.Lines.{if_right}
use Rattle.ipx_configuration.specs.declared.endpoint.Endpoint.{Endpoint}
use Rattle.ipx_configuration.specs.declared.fault.Fault.{Fault}
use Rattle.ipx_configuration.specs.declared.fault.Fault.TheVariants as fault
use Rattle.ipx_configuration.specs.declared.peers.PeerSaid.{PeerSaid}
use Rattle.ipx_configuration.specs.declared.peers.Peers.{Peers}
use Rattle.ipx_configuration.specs.declared.said.NetworkSetting.{NetworkSetting}

-- ---- one of them

abbrev pub peer_at : ℕ → Endpoint → List ℕ → PeerSaid
peer_at line at host = record { line = line; at = at; host = host }

abbrev pub no_peer : PeerSaid
no_peer = peer_at 0 no_endpoint no_host

-- what its line says
abbrev pub peer_said : ℕ → Place → PeerSaid
peer_said line place = peer_at line (place_at place) (place_name place)

-- ---- all of a network: the first so many places of memory

abbrev pub most_peers : ℕ
most_peers = 32

abbrev pub peer_list : List PeerSaid → ℕ → Peers
peer_list list count = record { list = list; count = count }

abbrev pub no_peers : Peers
no_peers = peer_list (replicate 32 no_peer) 0

abbrev pub peers_in : Peers → List PeerSaid
peers_in p = take p.count p.list

-- one more behind them, while there is room
abbrev pub with_peer : Peers → PeerSaid → Peers
with_peer p it = if nat_lt p.count most_peers then peer_list (slice_set p.list p.count it) (p.count + 1) else p

-- ---- which of them is the same

abbrev pub is_there : Place → PeerSaid → Bool
is_there place it = same_endpoint it.at (place_at place) && bytes_eq it.host (place_name place)

-- the line of the first that is there
abbrev pub first_peer : Place → Peers → Option ℕ
first_peer place p = position (is_there place) (peers_in p) >>= λ k. option_map (λ it. it.line) (slice_get (peers_in p) k)

-- ---- the line of a peer

-- it is of the kind of the link's own address: names may be of either
abbrev pub unlike : Endpoint → Place → Option Fault
unlike local (At address) = if local.is_six then when (not (is_six address)) fault.PeerOfSix else when (is_six address) fault.PeerOfFour
unlike local (Named name port) = None

abbrev pub more_peers : Peers → ℕ → Option Place → Peers
more_peers p line None = p
more_peers p line (Some place) = with_peer p (peer_said line place)

-- each is said once
abbrev pub peer_fault : Peers → Option Place → Option Expected → Option Fault
peer_fault p begun own =
    first_of (
    when (not (nat_lt p.count most_peers)) fault.ManyPeers
    ∷ (begun >>= λ place. option_map fault.OtherPeer (first_peer place p))
    ∷ line_fault own
    ∷ [])

abbrev pub with_peers : NetworkSetting → Peers → NetworkSetting
with_peers n peers = record {
  line = n.line;
  first = n.first;
  has_link = n.has_link;
  number = n.number;
  cost = n.cost;
  longest = n.longest;
  has_shares = n.has_shares;
  routes = n.routes;
  services = n.services;
  is_of_several = n.is_of_several;
  has_node = n.has_node;
  node = n.node;
  sockets = n.sockets;
  adopt_line = n.adopt_line;
  rules = n.rules;
  static_routes = n.static_routes;
  static_services = n.static_services;
  peers = peers;
}

-- a network behind the line of a peer, and what is wrong with that
abbrev pub peer_taken : ℕ → NetworkSetting → Option Place → Option Expected → NetworkSetting × Option Fault
peer_taken line n begun own = if_right (peer_fault n.peers begun own) n (with_peers n (more_peers n.peers line begun))
