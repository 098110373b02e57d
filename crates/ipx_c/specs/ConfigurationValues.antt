-- What lines of a configuration say together, as C knows it.
use Rattle.std.specs.Prelude.{ℕ, ◌/◌, Bool, List, [], ◌∷◌, Option, None, Some}
use Rattle.std.specs.Option.{unwrap_or}
use Rattle.ipx_c.specs.SettingsValues.{expected_number}
use Rattle.ipx_c.specs.Sizes.{most_ports, most_links, most_clients, most_routes, most_services}
use Rattle.ipx_c.specs.declared.configuration.LineWrong.{LineWrong}
use Rattle.ipx_settings.specs.declared.link.Cards.{Cards}
use Rattle.ipx_settings.specs.declared.link.Cards.TheVariants as has
use Rattle.ipx_configuration.specs.Configurations.{told, is_below_tunnel}
use Rattle.ipx_configuration.specs.declared.configuration.Capacity.{Capacity}
use Rattle.ipx_configuration.specs.declared.configuration.Configuration.{Configuration}
use Rattle.ipx_configuration.specs.declared.configuration.Told.{Told}
use Rattle.ipx_configuration.specs.declared.fault.Fault.{Fault}
use Rattle.ipx_configuration.specs.declared.fault.Fault.TheVariants as fault

-- that of one router: so networks with tunnels can't fill a table together
abbrev pub capacity_of : Cards → Capacity
capacity_of cards = record {
  cards = cards;
  networks = most_ports;
  links = most_links;
  clients = most_clients;
  routes = most_routes / most_ports;
  services = most_services / most_ports;
}

abbrev pub most_default : Capacity
most_default = capacity_of has.None

-- what was expected of other places
abbrev pub peers_number : Option Fault → ℕ
peers_number (Some fault.BelowPeers) = 80
peers_number (Some (fault.OtherPeer line)) = 81
peers_number (Some fault.ManyPeers) = 82
peers_number (Some fault.PeerOfFour) = 83
peers_number (Some fault.PeerOfSix) = 84
peers_number (Some (fault.OnePeers line)) = 85
peers_number (Some fault.OnOwnLine) = 86
peers_number other = 0

-- what was expected; 0 where nothing is wrong
abbrev pub fault_number : Option Fault → ℕ
fault_number None = 0
fault_number (Some (fault.Line e)) = expected_number (Some e)
fault_number (Some fault.BelowNetwork) = 32
fault_number (Some fault.BelowLink) = 33
fault_number (Some fault.BelowTunnel) = 34
fault_number (Some fault.BelowTunnelLink) = 35
fault_number (Some fault.LinkBelow) = 36
fault_number (Some fault.ManyNetworks) = 37
fault_number (Some fault.ManyLinks) = 38
fault_number (Some fault.ManyLinksOfNetwork) = 39
fault_number (Some (fault.OtherNetwork line)) = 40
fault_number (Some (fault.OtherCarrier line)) = 41
fault_number (Some (fault.OneKind line)) = 42
fault_number (Some (fault.OtherKind line)) = 43
fault_number (Some (fault.OtherPort line)) = 44
fault_number (Some fault.OwnAddress) = 45
fault_number (Some (fault.Longest longest most)) = 46
fault_number (Some (fault.Once line)) = 47
fault_number (Some (fault.OtherKilobits kilobits line)) = 48
fault_number (Some (fault.OtherSocket word)) = 49
fault_number (Some (fault.ManySockets word)) = 50
fault_number (Some (fault.ManyRanges word)) = 51
fault_number (Some fault.ManyRules) = 60
fault_number (Some fault.ManyRoutes) = 68
fault_number (Some fault.ManyServices) = 69
fault_number (Some (fault.OtherService line)) = 70
fault_number (Some fault.BelowWeb) = 77
fault_number other = peers_number other

-- the word that is wrong; of a line that is wrong by itself, the first that couldn't be read
abbrev pub fault_word : Option Fault → ℕ → ℕ
fault_word (Some (fault.Line e)) read = read
fault_word (Some (fault.OtherNetwork line)) read = 1
fault_word (Some (fault.OtherKilobits kilobits line)) read = 1
fault_word (Some (fault.OtherSocket word)) read = word
fault_word (Some (fault.ManySockets word)) read = word
fault_word (Some (fault.ManyRanges word)) read = word
fault_word (Some (fault.OtherService line)) read = 2
fault_word (Some (fault.OtherPeer line)) read = 1
fault_word (Some fault.PeerOfFour) read = 1
fault_word (Some fault.PeerOfSix) read = 1
fault_word (Some fault.OnOwnLine) read = 1
fault_word other read = 0

-- the line that says something else
abbrev pub fault_line : Option Fault → ℕ
fault_line (Some (fault.OtherNetwork line)) = line
fault_line (Some (fault.OtherCarrier line)) = line
fault_line (Some (fault.OneKind line)) = line
fault_line (Some (fault.OtherKind line)) = line
fault_line (Some (fault.OtherPort line)) = line
fault_line (Some (fault.Once line)) = line
fault_line (Some (fault.OtherKilobits kilobits line)) = line
fault_line (Some (fault.OtherService line)) = line
fault_line (Some (fault.OtherPeer line)) = line
fault_line (Some (fault.OnePeers line)) = line
fault_line other = 0

abbrev pub fault_numbers : Option Fault → List ℕ
fault_numbers (Some (fault.Longest longest most)) = longest ∷ most ∷ []
fault_numbers (Some (fault.OtherKilobits kilobits line)) = kilobits ∷ 0 ∷ []
fault_numbers other = 0 ∷ 0 ∷ []

abbrev pub wrong_at : Told → Bool → LineWrong
wrong_at t is_below_tunnel = record {
  unlinked = unwrap_or t.unlinked 0;
  word = fault_word t.fault t.reading.read;
  line = fault_line t.fault;
  numbers = fault_numbers t.fault;
  is_below_tunnel = is_below_tunnel;
}

abbrev pub line_wrong : Capacity → ℕ → List ℕ → Configuration → LineWrong
line_wrong capacity line text c = wrong_at (told capacity line text c) (is_below_tunnel c)
