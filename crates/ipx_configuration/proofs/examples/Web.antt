-- Clients by WebSocket beside other links, and what stands below them.
use Rattle.std.proofs.Common.{◌≡◌, refl, true, ℕ, List, [], ◌∷◌, map, take, replicate, Option, Some, None}
use Rattle.std.specs.Prelude.{codes}
use Rattle.std.specs.Option.{option_map}
use Rattle.ipx_settings.specs.Names.{padded, origin_room}
use Rattle.ipx_settings.specs.declared.link.Cards.TheVariants as has
use Rattle.ipx_settings.specs.declared.network.NetworkBegun.TheVariants as network
use Rattle.ipx_settings.specs.declared.expected.Expected.TheVariants as expected
use Rattle.ipx_configuration.specs.Carriers.{no_carrier}
use Rattle.ipx_configuration.specs.Configurations.{nothing, configuration_at, network_of, told}
use Rattle.ipx_configuration.specs.Configured.{configured}
use Rattle.ipx_configuration.specs.Memory.{most_networks, most_links, network_list, link_list}
use Rattle.ipx_configuration.specs.Said.{no_internal, new_link}
use Rattle.ipx_configuration.specs.Wholes.{after_lines}
use Rattle.ipx_configuration.specs.declared.configuration.Capacity.{Capacity}
use Rattle.ipx_configuration.specs.declared.configuration.Configuration.{Configuration}
use Rattle.ipx_configuration.specs.declared.fault.Fault.{Fault}
use Rattle.ipx_configuration.specs.declared.fault.Fault.TheVariants as fault

abbrev capacity : Capacity
capacity = record { cards = has.None; networks = 32; links = 32; clients = 4096; routes = 64; services = 32 }

abbrev blank : Configuration
blank =
    configuration_at (network_list (replicate most_networks (network_of 0 0 network.Nothing true)) 0)
    (link_list (replicate most_links (new_link 0 0 no_carrier)) 0) no_internal nothing

-- what the first lines of a file say
abbrev said : List (List ℕ) → Configuration
said lines = after_lines capacity 1 blank lines

-- what is wrong with a line behind them
abbrev wrong_behind : List (List ℕ) → ℕ → List ℕ → Option Fault
wrong_behind lines number text = (told capacity number text (said lines)).fault

abbrev a_tunnel : List ℕ
a_tunnel = codes "network 10 1 1424 web 8080"

abbrev of_frames : List ℕ
of_frames = codes "network 10 1 1424 web 8080 raw"

-- ---- paths

abbrev several : List ℕ
several = codes "network 10 1 1424"

pub two_paths : wrong_behind (several ∷ codes "link web 8080" ∷ []) 3 (codes "link web 8080 raw") ≡ None
two_paths = refl

pub one_path : wrong_behind (several ∷ codes "link web 8080" ∷ []) 3 (codes "link web 8080") ≡ Some (fault.OtherPort 2)
one_path = refl

pub one_path_of_frames : wrong_behind (several ∷ codes "link web 8080 raw" ∷ []) 3 (codes "link web 8080 llc") ≡ Some (fault.OtherPort 2)
one_path_of_frames = refl

pub of_two_networks : wrong_behind (a_tunnel ∷ []) 2 (codes "network 20 1 1424 web 8080") ≡ None
of_two_networks = refl

pub at_any_free_ports : wrong_behind (several ∷ codes "link web 0" ∷ []) 3 (codes "link web 0") ≡ None
at_any_free_ports = refl

pub at_all_addresses : wrong_behind (a_tunnel ∷ []) 2 (codes "network 20 1 1424 web 0.0.0.0:8080") ≡ Some (fault.OtherPort 1)
at_all_addresses = refl

pub beside_a_pc : wrong_behind (a_tunnel ∷ []) 2 (codes "network 20 1 1424 qemu-tcp listen 8080 raw") ≡ Some (fault.OtherPort 1)
beside_a_pc = refl

pub behind_a_pc : wrong_behind (codes "network 20 1 1424 qemu-tcp listen 8080 raw" ∷ []) 2 a_tunnel ≡ Some (fault.OtherPort 1)
behind_a_pc = refl

pub beside_datagrams : wrong_behind (a_tunnel ∷ []) 2 (codes "network 20 1 1424 dosbox 8080") ≡ None
beside_datagrams = refl

pub too_long : wrong_behind [] 1 (codes "network 10 1 1425 web 8080") ≡ Some (fault.Longest 1425 1424)
too_long = refl

-- ---- lines below

pub clients_below : wrong_behind (a_tunnel ∷ []) 2 (codes "clients 10") ≡ None
clients_below = refl

pub no_clients_of_frames : wrong_behind (of_frames ∷ []) 2 (codes "clients 10") ≡ Some fault.BelowTunnel
no_clients_of_frames = refl

pub a_household_below : wrong_behind (a_tunnel ∷ []) 2 (codes "rate 100 50 1600") ≡ None
a_household_below = refl

pub no_household_of_frames : wrong_behind (of_frames ∷ []) 2 (codes "rate 100 50 1600") ≡ Some (fault.Line expected.Nothing)
no_household_of_frames = refl

-- the shares of a tunnel
abbrev routes_by : List ℕ → Option ℕ
routes_by text = option_map (λ link. link.routes) (configured capacity 0 (said (text ∷ [])))

pub few_routes : routes_by a_tunnel ≡ Some 64
few_routes = refl

pub all_routes : routes_by of_frames ≡ Some 65535
all_routes = refl

-- ---- origins

-- those of the first link
abbrev origins_by : List (List ℕ) → Option (List (List ℕ))
origins_by lines = option_map (λ link. map (λ it. it.text) (take link.origins.count link.origins.list)) (configured capacity 0 (said lines))

pub in_two_lines : origins_by (of_frames ∷ codes "origins http://a" ∷ codes "origins *" ∷ [])
    ≡ Some (padded origin_room (codes "http://a") ∷ padded origin_room (codes "*") ∷ [])
in_two_lines = refl

pub no_line : origins_by (a_tunnel ∷ []) ≡ Some []
no_line = refl

pub below_dosbox : wrong_behind (codes "network 10 1 1424 dosbox 2130" ∷ []) 2 (codes "origins *") ≡ Some fault.BelowWeb
below_dosbox = refl

pub below_a_network : wrong_behind (several ∷ []) 2 (codes "origins *") ≡ Some fault.BelowWeb
below_a_network = refl

pub one_too_many : wrong_behind (a_tunnel ∷ codes "origins * * * * * * * * * * * * * * * *" ∷ []) 3 (codes "origins *") ≡ Some (fault.ManyRanges 1)
one_too_many = refl
