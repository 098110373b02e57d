-- The router's own network, which no cable carries. It counts among the networks.
use Rattle.std.specs.Prelude.{ℕ, ◌+◌, Bool, not, ◌==◌, ◌&&◌, if◌then◌else◌, nat_lt, Option, Some, None}
use Rattle.std.specs.Option.{unwrap_or}
use Rattle.ipx_settings.specs.Cutting.{◌>>=◌}
use Rattle.ipx_settings.specs.Internals.{internal_number, internal_node}
use Rattle.ipx_settings.specs.declared.internal.InternalBegun.{InternalBegun}
use Rattle.ipx_configuration.specs.Clashes.{when}
use Rattle.ipx_configuration.specs.Memory.{most_networks}
use Rattle.ipx_configuration.specs.Said.{usual_node}
use Rattle.ipx_configuration.specs.declared.configuration.Capacity.{Capacity}
use Rattle.ipx_configuration.specs.declared.configuration.Configuration.{Configuration}
use Rattle.ipx_configuration.specs.declared.fault.Fault.{Fault}
use Rattle.ipx_configuration.specs.declared.fault.Fault.TheVariants as fault
use Rattle.ipx_configuration.specs.declared.said.InternalSaid.{InternalSaid}

-- a line says it
abbrev pub is_said : InternalSaid → Bool
is_said internal = nat_lt 0 internal.line

-- how many networks there are, with it
abbrev pub all_networks : Configuration → ℕ
all_networks c = c.networks.count + (if is_said c.internal then 1 else 0)

-- as many as there may be
abbrev pub is_full : Capacity → Configuration → Bool
is_full capacity c = not (nat_lt (all_networks c) most_networks && nat_lt (all_networks c) capacity.networks)

-- it has the number
abbrev pub internal_clash : Option ℕ → InternalSaid → Option Fault
internal_clash number internal =
    number >>= λ n. when (is_said internal && (internal.number == n)) (fault.OtherNetwork internal.line)

-- what its line says; what isn't said of the node is the usual one
abbrev pub internal_said : ℕ → InternalBegun → InternalSaid
internal_said line begun =
    record { line = line; number = unwrap_or (internal_number begun) 0; node = unwrap_or (internal_node begun) usual_node }

-- what is told of it
abbrev pub told_internal : Configuration → Option InternalSaid
told_internal c = if is_said c.internal then Some c.internal else None
