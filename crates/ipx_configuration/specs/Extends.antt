-- What a line below a network says of it.
use Rattle.std.specs.Prelude.{ℕ, ◌+◌, not, nat_lt, List, [], ◌∷◌, Option, Some, None}
use Rattle.ipx_settings.specs.Lines.{socket_of}
use Rattle.ipx_settings.specs.declared.expected.Expected.{Expected}
use Rattle.ipx_settings.specs.declared.line.Line.{Line}
use Rattle.ipx_settings.specs.declared.line.Line.TheVariants as line
use Rattle.ipx_settings.specs.declared.reading.Reading.{Reading}
use Rattle.ipx_configuration.specs.Clashes.{first_of, when, line_fault}
use Rattle.ipx_configuration.specs.Lines.{once, if_right, words_from}
use Rattle.ipx_configuration.specs.Peers.{peer_taken}
use Rattle.ipx_configuration.specs.Rules.{rule_taken}
use Rattle.ipx_configuration.specs.Said.{has_socket, with_socket, most_sockets}
use Rattle.ipx_configuration.specs.Statics.{route_taken, service_taken}
use Rattle.ipx_configuration.specs.declared.fault.Fault.{Fault}
use Rattle.ipx_configuration.specs.declared.fault.Fault.TheVariants as fault
use Rattle.ipx_configuration.specs.declared.said.NetworkSetting.{NetworkSetting}
use Rattle.ipx_configuration.specs.declared.said.Sockets.{Sockets}

-- ---- the sockets that a line `extend` names

-- one more, which isn't there yet, and for which there is room
abbrev pub socket_fault : Sockets → ℕ → ℕ → Option Fault
socket_fault s number socket =
    first_of (when (has_socket s socket) (fault.OtherSocket number) ∷ when (not (nat_lt s.count most_sockets)) (fault.ManySockets number) ∷ [])

abbrev pub socket_by : Sockets → Option Fault → Sockets × Option Fault → Sockets × Option Fault
socket_by s None more = more
socket_by s (Some f) more = (s, Some f)

abbrev pub socket_then : Sockets → ℕ → Option ℕ → (Sockets → Sockets × Option Fault) → Sockets × Option Fault
socket_then s number None more = (s, None)
socket_then s number (Some socket) more = socket_by s (socket_fault s number socket) (more (with_socket s socket))

-- the sockets of words, of which the first has that number; those before a wrong one count
abbrev pub sockets_from : Sockets → ℕ → List (List ℕ) → Sockets × Option Fault
sockets_from s number [] = (s, None)
sockets_from s number (word ∷ more) = socket_then s number (socket_of word) (λ next. sockets_from next (number + 1) more)

abbrev pub with_sockets : NetworkSetting → Sockets → NetworkSetting
with_sockets n sockets = record {
  line = n.line;
  first = n.first;
  has_link = n.has_link;
  number = n.number;
  cost = n.cost;
  longest = n.longest;
  has_shares = n.has_shares;
  routes = n.routes;
  services = n.services;
  is_of_several = n.is_of_several;
  has_node = n.has_node;
  node = n.node;
  sockets = sockets;
  adopt_line = n.adopt_line;
  rules = n.rules;
  static_routes = n.static_routes;
  static_services = n.static_services;
  peers = n.peers;
}

abbrev pub taken_by : NetworkSetting → Sockets × Option Fault → Option Expected → NetworkSetting × Option Fault
taken_by n taken own = (with_sockets n taken.0, first_of (taken.1 ∷ line_fault own ∷ []))

abbrev pub sockets_taken : NetworkSetting → List ℕ → ℕ → Option Expected → NetworkSetting × Option Fault
sockets_taken n text read own = taken_by n (sockets_from n.sockets 1 (words_from text 1 read)) own

-- ---- what comes from the cable is taken as it is

abbrev pub with_adopt : NetworkSetting → ℕ → NetworkSetting
with_adopt n line = record {
  line = n.line;
  first = n.first;
  has_link = n.has_link;
  number = n.number;
  cost = n.cost;
  longest = n.longest;
  has_shares = n.has_shares;
  routes = n.routes;
  services = n.services;
  is_of_several = n.is_of_several;
  has_node = n.has_node;
  node = n.node;
  sockets = n.sockets;
  adopt_line = line;
  rules = n.rules;
  static_routes = n.static_routes;
  static_services = n.static_services;
  peers = n.peers;
}

abbrev pub adopt_taken : ℕ → NetworkSetting → Option Expected → NetworkSetting × Option Fault
adopt_taken line n own = if_right (once n.adopt_line own) n (with_adopt n line)

-- ---- lines

abbrev pub network_by : ℕ → List ℕ → Line → ℕ → Option Expected → NetworkSetting → NetworkSetting × Option Fault
network_by number text (line.Extend has_some) read own n = sockets_taken n text read own
network_by number text (line.Adopt is_off) read own n = adopt_taken number n own
network_by number text (line.Rule permits begun) read own n = rule_taken n permits begun own
network_by number text (line.Route begun) read own n = route_taken number n begun own
network_by number text (line.Service begun) read own n = service_taken number n begun own
network_by number text (line.Peer begun) read own n = peer_taken number n begun own
network_by number text other read own n = (n, None)

-- what a network is behind a line that says more of it, and what is wrong with that line
abbrev pub network_taken : ℕ → List ℕ → Reading → NetworkSetting → NetworkSetting × Option Fault
network_taken number text r n = network_by number text r.line r.read r.fault n
