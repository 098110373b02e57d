-- Links to other places beside others, and lines that say where these are.
use Rattle.std.proofs.Common.{◌≡◌, refl, true, false, ℕ, List, [], ◌∷◌, take, replicate, Option, Some, None}
use Rattle.std.specs.Prelude.{codes}
use Rattle.std.specs.Option.{option_map}
use Rattle.ipx_settings.specs.Names.{padded, host_room}
use Rattle.ipx_settings.specs.declared.link.Cards.TheVariants as has
use Rattle.ipx_settings.specs.declared.network.NetworkBegun.TheVariants as network
use Rattle.ipx_settings.specs.declared.expected.Expected.TheVariants as expected
use Rattle.ipx_configuration.specs.Carriers.{no_carrier, carrier_at, peers, rfc1234, no_host, no_name}
use Rattle.ipx_configuration.specs.Configurations.{nothing, configuration_at, network_of, told}
use Rattle.ipx_configuration.specs.Configured.{configured}
use Rattle.ipx_configuration.specs.Endpoints.{endpoint_at, no_endpoint, no_four, no_six}
use Rattle.ipx_configuration.specs.Memory.{most_networks, most_links, network_list, link_list}
use Rattle.ipx_configuration.specs.Peers.{peer_at}
use Rattle.ipx_configuration.specs.Said.{no_internal, new_link}
use Rattle.ipx_configuration.specs.Wholes.{after_lines}
use Rattle.ipx_configuration.specs.declared.carrier.Carrier.{Carrier}
use Rattle.ipx_configuration.specs.declared.configuration.Capacity.{Capacity}
use Rattle.ipx_configuration.specs.declared.configuration.Configuration.{Configuration}
use Rattle.ipx_configuration.specs.declared.fault.Fault.{Fault}
use Rattle.ipx_configuration.specs.declared.fault.Fault.TheVariants as fault
use Rattle.ipx_configuration.specs.declared.peers.PeerSaid.{PeerSaid}

abbrev capacity : Capacity
capacity = record { cards = has.None; networks = 32; links = 32; clients = 4096; routes = 64; services = 32 }

abbrev blank : Configuration
blank =
    configuration_at (network_list (replicate most_networks (network_of 0 0 network.Nothing true)) 0)
    (link_list (replicate most_links (new_link 0 0 no_carrier)) 0) no_internal nothing

-- what the first lines of a file say
abbrev said : List (List ℕ) → Configuration
said lines = after_lines capacity 1 blank lines

-- what is wrong with a line behind them
abbrev wrong_behind : List (List ℕ) → ℕ → List ℕ → Option Fault
wrong_behind lines number text = (told capacity number text (said lines)).fault

abbrev several : List ℕ
several = codes "network 100 1 1360"

abbrev to_others : List ℕ
to_others = codes "link peers 0.0.0.0:2131 /etc/hub.key raw"

abbrev by_rfc : List ℕ
by_rfc = codes "network 1234 1 576 rfc1234 192.0.2.7:213"

-- ---- links

-- what carries the link of one line
abbrev carrier_by : List ℕ → Option Carrier
carrier_by text = option_map (λ link. link.carrier) (configured capacity 0 (said (text ∷ [])))

pub carries_frames : carrier_by (codes "network 100 1 1360 peers 0.0.0.0:2131 /etc/hub.key raw")
    ≡ Some (carrier_at peers 2 (endpoint_at no_four no_six 2131 false) no_endpoint (padded host_room (codes "/etc/hub.key")) no_name)
carries_frames = refl

pub carries_packets : carrier_by by_rfc ≡ Some (carrier_at rfc1234 0 (endpoint_at (192 ∷ 0 ∷ 2 ∷ 7 ∷ []) no_six 213 false) no_endpoint no_host no_name)
carries_packets = refl

pub one_of_a_network : wrong_behind (several ∷ to_others ∷ []) 3 (codes "link peers 0.0.0.0:2132 /etc/other.key raw") ≡ Some (fault.OnePeers 2)
one_of_a_network = refl

pub of_two_networks : wrong_behind (several ∷ to_others ∷ []) 3 (codes "network 200 1 1360 peers 0.0.0.0:2132 /etc/hub.key raw") ≡ None
of_two_networks = refl

pub at_one_address : wrong_behind (several ∷ to_others ∷ []) 3 (codes "network 200 1 1360 peers 0.0.0.0:2131 /etc/hub.key llc") ≡ Some (fault.OtherPort 2)
at_one_address = refl

pub beside_players : wrong_behind (several ∷ to_others ∷ []) 3 (codes "link dosbox 213") ≡ None
beside_players = refl

pub at_its_address : wrong_behind (by_rfc ∷ []) 2 (codes "network 10 1 1424 dosbox 0.0.0.0:213") ≡ Some (fault.OtherPort 1)
at_its_address = refl

pub no_link_of_several : wrong_behind (several ∷ []) 2 (codes "link rfc1234 192.0.2.7:213") ≡ Some fault.OnOwnLine
no_link_of_several = refl

pub no_other_link : wrong_behind (by_rfc ∷ []) 2 (codes "link dosbox 214") ≡ Some fault.LinkBelow
no_other_link = refl

pub a_whole_packet : wrong_behind [] 1 (codes "network 1234 1 1472 rfc1234 192.0.2.7:213") ≡ None
a_whole_packet = refl

pub too_long : wrong_behind [] 1 (codes "network 1234 1 1473 rfc1234 192.0.2.7:213") ≡ Some (fault.Longest 1473 1472)
too_long = refl

-- ---- other places

-- those of the first link's network
abbrev places_by : List (List ℕ) → Option (List PeerSaid)
places_by lines = option_map (λ link. take link.peers.count link.peers.list) (configured capacity 0 (said lines))

pub in_their_order : places_by (several ∷ to_others ∷ codes "peer play.example.org:2131" ∷ codes "link dosbox 213" ∷ codes "peer 192.0.2.9:2131" ∷ [])
    ≡ Some (
    peer_at 3 (endpoint_at no_four no_six 2131 false) (padded host_room (codes "play.example.org"))
    ∷ peer_at 5 (endpoint_at (192 ∷ 0 ∷ 2 ∷ 9 ∷ []) no_six 2131 false) no_host
    ∷ [])
in_their_order = refl

pub below_rfc : wrong_behind (by_rfc ∷ []) 2 (codes "peer 192.0.2.9:213") ≡ None
below_rfc = refl

pub below_no_link : wrong_behind (several ∷ []) 2 (codes "peer 192.0.2.9:2131") ≡ Some fault.BelowPeers
below_no_link = refl

pub below_players : wrong_behind (several ∷ codes "link dosbox 213" ∷ []) 3 (codes "peer 192.0.2.9:2131") ≡ Some fault.BelowPeers
below_players = refl

pub below_another_network : wrong_behind (by_rfc ∷ codes "network 10 1 1424 dosbox 214" ∷ []) 3 (codes "peer 192.0.2.9:213") ≡ Some fault.BelowPeers
below_another_network = refl

pub said_twice : wrong_behind (by_rfc ∷ codes "peer 192.0.2.9:213" ∷ []) 3 (codes "peer 192.0.2.9:213") ≡ Some (fault.OtherPeer 2)
said_twice = refl

pub at_another_port : wrong_behind (by_rfc ∷ codes "peer 192.0.2.9:213" ∷ []) 3 (codes "peer 192.0.2.9:214") ≡ None
at_another_port = refl

pub of_six : wrong_behind (several ∷ to_others ∷ []) 3 (codes "peer [fd00::9]:2131") ≡ Some fault.PeerOfFour
of_six = refl

pub of_four : wrong_behind (several ∷ codes "link peers [::]:2131 /etc/hub.key raw" ∷ []) 3 (codes "peer 192.0.2.9:2131") ≡ Some fault.PeerOfSix
of_four = refl

pub nobody : wrong_behind (by_rfc ∷ []) 2 (codes "peer") ≡ Some (fault.Line expected.Remote)
nobody = refl
