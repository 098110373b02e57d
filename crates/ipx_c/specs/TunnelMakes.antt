-- What making a tunnel does to what a handle has.
use Rattle.std.specs.Prelude.{◌≡◌, ℤ, ◌<◌, ◌≤◌, ◌⊎◌, false, [], Option, Some}
use Rattle.ipx_tunnel.specs.Stands.{Stands}
use Rattle.ipx_c.specs.Codes.{fault_code, done}
use Rattle.ipx_c.specs.Sizes.{most_clients}
use Rattle.ipx_c.specs.TunnelValues.{setting_of}
use Rattle.ipx_c.specs.declared.fault.Fault.{Fault}
use Rattle.ipx_c.specs.declared.fault.Fault.TheVariants.{OutOfMemory, ManyClients}
use Rattle.ipx_c.specs.declared.tunnel_machine.TunnelMachine.{TunnelMachine}
use Rattle.ipx_c.specs.declared.tunnel_values.TunnelSetting.{TunnelSetting}

-- a tunnel as it is made, of those values: it stands for the empty history, and nothing came of it yet
pub record IsTunnelMade (values : TunnelSetting) (machine : TunnelMachine) : Type 0 where
  pub few : values.capacity ≤ most_clients
  pub setting : machine.tunnel.setting ≡ setting_of values
  pub stands : Stands machine.tunnel []
  pub own : machine.own.items ≡ []
  pub receivers : machine.to.items ≡ []
  pub left : machine.left.items ≡ []
  pub carried : machine.carried ≡ 0
  pub heard : machine.is_heard ≡ false

-- why no tunnel is made: it would have more clients than a tunnel can have, or memory was refused
abbrev pub IsTunnelUnmade : TunnelSetting → Fault → Type 0
IsTunnelUnmade values ManyClients = most_clients < values.capacity
IsTunnelUnmade values OutOfMemory = values.capacity ≤ most_clients
IsTunnelUnmade values fault = ⊥

-- what a handle has before a making and after it, and the number that C hears: a new tunnel, or what it had
abbrev pub MakesTunnel : Option TunnelMachine → Option TunnelMachine → TunnelSetting → ℤ → Type 0
MakesTunnel before after values answer =
    ((machine : TunnelMachine) × (answer ≡ done) × (after ≡ Some machine) × IsTunnelMade values machine)
    ⊎ ((fault : Fault) × (answer ≡ fault_code fault) × (after ≡ before) × IsTunnelUnmade values fault)
