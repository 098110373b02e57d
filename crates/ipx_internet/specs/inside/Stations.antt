-- Where the ports of a network are found.
use Rattle.std.specs.Prelude.{◌≡◌, ℕ, ◌≤◌, ◌==◌, ◌&&◌, ◌||◌, not, Bool, List, length, map}
use Rattle.std.specs.List.{filter}
use Rattle.std.specs.List.Sorted.{IsNonDecreasingBy}
use Rattle.ipx_wire.specs.declared.network.Network.{Network}
use Rattle.ipx_wire.specs.declared.node.Node.{Node}
use Rattle.ipx_router.specs.Port.{Port, broadcast, same_node, port_at}
use Rattle.ipx_router.specs.Relays.{Sent}
use Rattle.ipx_internet.specs.Internet.{Internet, Place, port_of}
use Rattle.ipx_internet.specs.Most.{on_network}
use Rattle.ipx_internet.specs.declared.stations.Station.{Station}

-- all stations, and for how many more there is room
pub record Index : Type 0 where
  pub list : List Station
  pub most : ℕ
  pub places : ℕ

-- the stations on a network
abbrev pub stations_on : List Station → Network → List Station
stations_on list network = filter (λ s. s.network.0 == network.0) list

-- they stand by network, no network has more than the most, and one has that many
pub record IsIndex (list : List Station) (most : ℕ) : Type 0 where
  pub sorted : IsNonDecreasingBy (λ s. s.network.0) list
  pub few : (network : Network) → length (stations_on list network) ≤ most
  pub fullest : Network
  pub full : length (stations_on list fullest) ≡ most

-- the station of a port
abbrev pub station : ℕ → ℕ → Port → Station
station router number port = record { network = port.network; node = port.node; router = router; port = number }

abbrev pub station_at : Internet → Place → Station
station_at net place = station place.router place.port (port_of net place)

-- the place of a station
abbrev pub place_of : Station → Place
place_of s = record { router = s.router; port = s.port }

-- it receives what another router sends to a node of its network
abbrev pub hears : ℕ → Node → Station → Bool
hears router link s = not (s.router == router) && (same_node s.node link || same_node link broadcast)

-- the stations that receive a packet of a router with that number and those ports
abbrev pub hearers : List Station → List Port → ℕ → Sent → List Station
hearers list ports number s = filter (hears number s.link) (stations_on list (port_at ports s.port).network)

-- on each network there are the stations of its ports, by router and port
pub record AreOf (net : Internet) (list : List Station) : Type 0 where
  pub each : (network : Network) → stations_on list network ≡ map (station_at net) (on_network net network)
