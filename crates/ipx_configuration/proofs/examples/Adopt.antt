-- Below a network a line says that the router takes what comes from the cable as it is.
use Rattle.std.proofs.Common.{◌≡◌, refl, true, false, Bool, ℕ, List, [], ◌∷◌, replicate, Option, Some}
use Rattle.std.specs.Option.{option_map}
use Rattle.std.specs.Prelude.{codes}
use Rattle.ipx_settings.specs.declared.link.Cards.TheVariants as has
use Rattle.ipx_settings.specs.declared.expected.Expected.TheVariants as expected
use Rattle.ipx_settings.specs.declared.network.NetworkBegun.TheVariants as network
use Rattle.ipx_configuration.specs.Carriers.{no_carrier}
use Rattle.ipx_configuration.specs.Configurations.{nothing, configuration_at, network_of, told}
use Rattle.ipx_configuration.specs.Configured.{configured}
use Rattle.ipx_configuration.specs.Memory.{most_networks, most_links, network_list, link_list}
use Rattle.ipx_configuration.specs.Said.{no_internal, new_link}
use Rattle.ipx_configuration.specs.Wholes.{after_lines}
use Rattle.ipx_configuration.specs.declared.configuration.Capacity.{Capacity}
use Rattle.ipx_configuration.specs.declared.configuration.Configuration.{Configuration}
use Rattle.ipx_configuration.specs.declared.fault.Fault.{Fault}
use Rattle.ipx_configuration.specs.declared.fault.Fault.TheVariants as fault

abbrev capacity : Capacity
capacity = record { cards = has.All; networks = 32; links = 32; clients = 4096; routes = 64; services = 32 }

abbrev blank : Configuration
blank =
    configuration_at (network_list (replicate most_networks (network_of 0 0 network.Nothing true)) 0)
    (link_list (replicate most_links (new_link 0 0 no_carrier)) 0) no_internal nothing

-- what the first lines of a file say
abbrev said : List (List ℕ) → Configuration
said lines = after_lines capacity 1 blank lines

-- whether the network of that link adopts then
abbrev adopts : ℕ → List (List ℕ) → Option Bool
adopts number lines = option_map (λ link. link.adopts) (configured capacity number (said lines))

-- what is wrong with a line behind them
abbrev wrong_behind : List (List ℕ) → ℕ → List ℕ → Option Fault
wrong_behind lines number text = (told capacity number text (said lines)).fault

abbrev a_tunnel : List ℕ
a_tunnel = codes "network 10 1 1424 dosbox 0.0.0.0:213"

abbrev of_several : List ℕ
of_several = codes "network 10 1 1424"

abbrev the_line : List ℕ
the_line = codes "adopt no"

pub it_does : adopts 0 (a_tunnel ∷ []) ≡ Some true
it_does = refl

pub it_does_not : adopts 0 (a_tunnel ∷ the_line ∷ []) ≡ Some false
it_does_not = refl

pub nor_for_its_other_links : adopts 1 (of_several ∷ codes "link dosbox 213" ∷ the_line ∷ codes "link dosbox 214" ∷ []) ≡ Some false
nor_for_its_other_links = refl

pub another_does : adopts 1 (a_tunnel ∷ the_line ∷ codes "network 20 1 1424 dosbox 0.0.0.0:214" ∷ []) ≡ Some true
another_does = refl

pub twice : wrong_behind (of_several ∷ the_line ∷ []) 3 the_line ≡ Some (fault.Once 2)
twice = refl

pub without_its_word : wrong_behind (a_tunnel ∷ []) 2 (codes "adopt") ≡ Some (fault.Line expected.No)
without_its_word = refl

pub above_all : wrong_behind [] 1 the_line ≡ Some fault.BelowNetwork
above_all = refl
