-- What making a tunnel with keyed nodes does to what a handle has.
use Rattle.std.specs.Prelude.{◌≡◌, ℤ, ◌<◌, ◌≤◌, ◌⊎◌, max, false, [], Option, Some}
use Rattle.ipx_keyed.specs.Stands.{Stands}
use Rattle.ipx_c.specs.Codes.{fault_code, done}
use Rattle.ipx_c.specs.Sizes.{most_clients}
use Rattle.ipx_c.specs.KeyedValues.{setting_of}
use Rattle.ipx_c.specs.declared.fault.Fault.{Fault}
use Rattle.ipx_c.specs.declared.fault.Fault.TheVariants.{OutOfMemory, ManyClients}
use Rattle.ipx_c.specs.declared.keyed_machine.KeyedMachine.{KeyedMachine}
use Rattle.ipx_c.specs.declared.keyed_values.KeyedSetting.{KeyedSetting}

-- a tunnel as it is made, of those values: it stands for the empty history, and nothing came of it yet
pub record IsKeyedMade (values : KeyedSetting) (machine : KeyedMachine) : Type 0 where
  pub few : values.capacity ≤ most_clients
  pub few_remembered : values.remembered ≤ most_clients
  pub setting : machine.tunnel.setting ≡ setting_of values
  pub stands : Stands machine.tunnel []
  pub pings : machine.pings.items ≡ []
  pub due : machine.due.items ≡ []
  pub receivers : machine.to.items ≡ []
  pub left : machine.left.items ≡ []
  pub carried : machine.carried ≡ 0
  pub heard : machine.is_heard ≡ false

-- why no tunnel is made: it would have, or remember, more than a tunnel can have, or memory was refused
abbrev pub IsKeyedUnmade : KeyedSetting → Fault → Type 0
IsKeyedUnmade values ManyClients = most_clients < max values.capacity values.remembered
IsKeyedUnmade values OutOfMemory = max values.capacity values.remembered ≤ most_clients
IsKeyedUnmade values fault = ⊥

-- what a handle has before a making and after it, and the number that C hears: a new tunnel, or what it had
abbrev pub MakesKeyed : Option KeyedMachine → Option KeyedMachine → KeyedSetting → ℤ → Type 0
MakesKeyed before after values answer =
    ((machine : KeyedMachine) × (answer ≡ done) × (after ≡ Some machine) × IsKeyedMade values machine)
    ⊎ ((fault : Fault) × (answer ≡ fault_code fault) × (after ≡ before) × IsKeyedUnmade values fault)
