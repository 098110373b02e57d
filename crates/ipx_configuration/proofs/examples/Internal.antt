-- A line says the router's own network, which counts among the others.
use Rattle.std.proofs.Common.{◌≡◌, refl, true, ℕ, List, [], ◌∷◌, replicate, Option, Some, None}
use Rattle.std.specs.Prelude.{codes}
use Rattle.ipx_settings.specs.declared.link.Cards.TheVariants as has
use Rattle.ipx_settings.specs.declared.expected.Expected.TheVariants as expected
use Rattle.ipx_settings.specs.declared.network.NetworkBegun.TheVariants as network
use Rattle.ipx_configuration.specs.Carriers.{no_carrier}
use Rattle.ipx_configuration.specs.Configurations.{nothing, configuration_at, network_of, told}
use Rattle.ipx_configuration.specs.Internals.{told_internal}
use Rattle.ipx_configuration.specs.Memory.{most_networks, most_links, network_list, link_list}
use Rattle.ipx_configuration.specs.Said.{no_internal, new_link}
use Rattle.ipx_configuration.specs.Wholes.{after_lines}
use Rattle.ipx_configuration.specs.declared.configuration.Capacity.{Capacity}
use Rattle.ipx_configuration.specs.declared.configuration.Configuration.{Configuration}
use Rattle.ipx_configuration.specs.declared.fault.Fault.{Fault}
use Rattle.ipx_configuration.specs.declared.fault.Fault.TheVariants as fault
use Rattle.ipx_configuration.specs.declared.said.InternalSaid.{InternalSaid}

abbrev of_networks : ℕ → Capacity
of_networks n = record { cards = has.All; networks = n; links = 32; clients = 4096; routes = 64; services = 32 }

abbrev blank : Configuration
blank =
    configuration_at (network_list (replicate most_networks (network_of 0 0 network.Nothing true)) 0)
    (link_list (replicate most_links (new_link 0 0 no_carrier)) 0) no_internal nothing

-- what the first lines of a file say
abbrev said : List (List ℕ) → Configuration
said lines = after_lines (of_networks 32) 1 blank lines

-- what is wrong with a line behind them, for a router with so many ports
abbrev wrong_in : ℕ → List (List ℕ) → ℕ → List ℕ → Option Fault
wrong_in networks lines number text = (told (of_networks networks) number text (said lines)).fault

abbrev wrong_behind : List (List ℕ) → ℕ → List ℕ → Option Fault
wrong_behind lines number text = wrong_in 32 lines number text

abbrev a_tunnel : List ℕ
a_tunnel = codes "network 10 1 1424 dosbox 0.0.0.0:213"

abbrev an_own : List ℕ
an_own = codes "internal A1"

abbrev it_is : ℕ → ℕ → List ℕ → Option InternalSaid
it_is line number node = Some (record { line = line; number = number; node = node })

pub with_its_usual_node : told_internal (said (a_tunnel ∷ an_own ∷ [])) ≡ it_is 2 0xA1 (0 ∷ 0 ∷ 0 ∷ 0 ∷ 0 ∷ 1 ∷ [])
with_its_usual_node = refl

pub with_a_node : told_internal (said (codes "internal FF node 02005e000001" ∷ [])) ≡ it_is 1 0xFF (2 ∷ 0 ∷ 0x5E ∷ 0 ∷ 0 ∷ 1 ∷ [])
with_a_node = refl

pub none : told_internal (said (a_tunnel ∷ [])) ≡ None
none = refl

pub twice : wrong_behind (an_own ∷ []) 2 (codes "internal A2") ≡ Some (fault.Once 1)
twice = refl

pub number_of_a_network : wrong_behind (a_tunnel ∷ []) 2 (codes "internal 10") ≡ Some (fault.OtherNetwork 1)
number_of_a_network = refl

pub its_number_below : wrong_behind (an_own ∷ []) 2 (codes "network A1 1 1424 dosbox 0.0.0.0:213") ≡ Some (fault.OtherNetwork 1)
its_number_below = refl

pub its_number_without_a_link : wrong_behind (an_own ∷ []) 2 (codes "network A1 1 1424") ≡ Some (fault.OtherNetwork 1)
its_number_without_a_link = refl

pub no_number : wrong_behind [] 1 (codes "internal 0") ≡ Some (fault.Line expected.Network)
no_number = refl

pub it_counts : wrong_in 1 (an_own ∷ []) 2 a_tunnel ≡ Some fault.ManyNetworks
it_counts = refl

pub it_has_room_beside_one : wrong_in 2 (an_own ∷ []) 2 a_tunnel ≡ None
it_has_room_beside_one = refl

pub one_too_many : wrong_in 1 (a_tunnel ∷ []) 2 an_own ≡ Some fault.ManyNetworks
one_too_many = refl

pub nothing_stands_below : wrong_behind (a_tunnel ∷ an_own ∷ []) 3 (codes "extend 4003") ≡ Some fault.BelowNetwork
nothing_stands_below = refl

pub no_link_either : wrong_behind (codes "network 10 1 1424" ∷ an_own ∷ []) 3 (codes "link dosbox 213") ≡ Some fault.LinkBelow
no_link_either = refl

-- the network above ends there, and has no link
pub above_without_a_link : (told (of_networks 32) 2 an_own (said (codes "network 10 1 1424" ∷ []))).unlinked ≡ Some 1
above_without_a_link = refl
