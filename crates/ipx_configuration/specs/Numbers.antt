-- Numbers of networks: each stands for one, and routes lead to others.
use Rattle.std.specs.Prelude.{ℕ, Bool, ◌==◌, ◌&&◌, List, Option, Some, slice_get}
use Rattle.std.specs.List.{position}
use Rattle.std.specs.Option.{is_some, option_map}
use Rattle.ipx_settings.specs.Cutting.{◌>>=◌}
use Rattle.ipx_configuration.specs.Statics.{first_route}
use Rattle.ipx_configuration.specs.declared.fault.Fault.{Fault}
use Rattle.ipx_configuration.specs.declared.fault.Fault.TheVariants as fault
use Rattle.ipx_configuration.specs.declared.said.NetworkSetting.{NetworkSetting}

-- a network that has a link has the number
abbrev pub has_number : ℕ → NetworkSetting → Bool
has_number number network = network.has_link && (network.number == number)

abbrev pub number_fault : Option ℕ → List NetworkSetting → Option Fault
number_fault number networks =
    number >>= λ n. position (has_number n) networks >>= λ k. slice_get networks k >>= λ network. Some (fault.OtherNetwork network.line)

-- a route of the network leads there
abbrev pub has_route : ℕ → NetworkSetting → Bool
has_route number network = is_some (first_route number network.static_routes)

-- the line of the first route there
abbrev pub routed_line : ℕ → List NetworkSetting → Option ℕ
routed_line number networks =
    position (has_route number) networks >>= λ k. slice_get networks k >>= λ network. first_route number network.static_routes

abbrev pub routed_fault : Option ℕ → List NetworkSetting → Option Fault
routed_fault number networks = number >>= λ n. option_map fault.OtherNetwork (routed_line n networks)
