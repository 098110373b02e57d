-- Below a tunnel a line says that the nodes of clients may be their addresses.
use Rattle.std.proofs.Common.{◌≡◌, refl, true, false, Bool, ℕ, List, [], ◌∷◌, replicate, Option, Some}
use Rattle.std.specs.Option.{option_map}
use Rattle.std.specs.Prelude.{codes}
use Rattle.ipx_settings.specs.declared.link.Cards.TheVariants as has
use Rattle.ipx_settings.specs.declared.expected.Expected.TheVariants as expected
use Rattle.ipx_settings.specs.declared.network.NetworkBegun.TheVariants as network
use Rattle.ipx_configuration.specs.Carriers.{no_carrier}
use Rattle.ipx_configuration.specs.Configurations.{nothing, configuration_at, network_of, told}
use Rattle.ipx_configuration.specs.Configured.{configured}
use Rattle.ipx_configuration.specs.Memory.{most_networks, most_links, network_list, link_list}
use Rattle.ipx_configuration.specs.Said.{no_internal, new_link}
use Rattle.ipx_configuration.specs.Wholes.{after_lines}
use Rattle.ipx_configuration.specs.declared.configuration.Capacity.{Capacity}
use Rattle.ipx_configuration.specs.declared.configuration.Configuration.{Configuration}
use Rattle.ipx_configuration.specs.declared.fault.Fault.{Fault}
use Rattle.ipx_configuration.specs.declared.fault.Fault.TheVariants as fault

abbrev capacity : Capacity
capacity = record { cards = has.All; networks = 32; links = 32; clients = 4096; routes = 64; services = 32 }

abbrev blank : Configuration
blank =
    configuration_at (network_list (replicate most_networks (network_of 0 0 network.Nothing true)) 0)
    (link_list (replicate most_links (new_link 0 0 no_carrier)) 0) no_internal nothing

-- what the first lines of a file say
abbrev said : List (List ℕ) → Configuration
said lines = after_lines capacity 1 blank lines

-- whether the first link has it then
abbrev by_address : List (List ℕ) → Option Bool
by_address lines = option_map (λ link. link.nodes_by_address) (configured capacity 0 (said lines))

-- what is wrong with a line behind them
abbrev wrong_behind : List (List ℕ) → ℕ → List ℕ → Option Fault
wrong_behind lines number text = (told capacity number text (said lines)).fault

abbrev a_tunnel : List ℕ
a_tunnel = codes "network 10 1 1424 dosbox 0.0.0.0:213"

abbrev the_line : List ℕ
the_line = codes "nodes by-address"

pub is_said : by_address (a_tunnel ∷ the_line ∷ []) ≡ Some true
is_said = refl

pub is_not_said : by_address (a_tunnel ∷ []) ≡ Some false
is_not_said = refl

pub twice : wrong_behind (a_tunnel ∷ the_line ∷ []) 3 the_line ≡ Some (fault.Once 2)
twice = refl

pub without_its_word : wrong_behind (a_tunnel ∷ []) 2 (codes "nodes") ≡ Some (fault.Line expected.ByAddress)
without_its_word = refl

pub below_another_link : wrong_behind (codes "network 10 1 1500 qemu-udp 1 2 raw" ∷ []) 2 the_line ≡ Some fault.BelowTunnel
below_another_link = refl

pub below_a_network : wrong_behind (codes "network 10 1 1424" ∷ []) 2 the_line ≡ Some fault.BelowTunnelLink
below_a_network = refl

pub above_all : wrong_behind [] 1 the_line ≡ Some fault.BelowNetwork
above_all = refl
