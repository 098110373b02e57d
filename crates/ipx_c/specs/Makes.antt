-- What making a router does to what a handle has.
use Rattle.std.specs.Prelude.{◌≡◌, ℤ, ◌<◌, ◌≤◌, ◌⊎◌, List, [], ◌∷◌, map, length, Option, Some}
use Rattle.std.specs.List.{AllByRecursion}
use Rattle.ipx_router.specs.Port.{IsPort, IsNoPort, AreApart}
use Rattle.ipx_router.specs.RouterOf.{made_of}
use Rattle.ipx_router.specs.declared.port.PortFault.{PortFault}
use Rattle.ipx_router.specs.declared.ports_fault.PortsFault.TheVariants.{NoPort, TooMany, SameNetwork}
use Rattle.ipx_c.specs.Codes.{fault_code, done}
use Rattle.ipx_c.specs.Happens.{Stands}
use Rattle.ipx_c.specs.Sizes.{most_ports}
use Rattle.ipx_c.specs.Values.{port_of}
use Rattle.ipx_c.specs.declared.fault.Fault.{Fault}
use Rattle.ipx_c.specs.declared.fault.Fault.TheVariants.{OutOfMemory, Port, Ports}
use Rattle.ipx_c.specs.declared.machine.Machine.{Machine}
use Rattle.ipx_c.specs.declared.values.PortValues.{PortValues}

-- the values are no port's, for that reason
abbrev pub IsBad : PortValues → PortFault → Type 0
IsBad v fault = IsNoPort (port_of v).network (port_of v).node v.cost v.longest fault

-- the first of the values that are no port's are so for that reason
abbrev pub IsFirstBad : List PortValues → PortFault → Type 0
IsFirstBad [] fault = ⊥
IsFirstBad (v ∷ values) fault = IsBad v fault ⊎ (IsPort (port_of v) × IsFirstBad values fault)

-- the values are ports', and as many as a router may have
pub record ArePorts (values : List PortValues) : Type 0 where
  pub some : 1 ≤ length values
  pub few : length values ≤ most_ports
  pub each : AllByRecursion IsPort (map port_of values)

-- a router as it is made, of those ports: it stands for the empty history, nothing is to be sent, and no memory was taken for it
pub record IsMade (values : List PortValues) (machine : Machine) : Type 0 where
  pub ports : ArePorts values
  pub apart : AreApart (map port_of values)
  pub router : machine.router ≡ made_of (map port_of values)
  pub stands : Stands machine []
  pub sent : machine.outbox.sent ≡ []
  pub memory : machine.outbox.memory ≡ record { packets = 0; bytes = 0 }

-- why no router is made, the first that holds: there is no port, there are too many; the first that is none; two are on one
-- network; and where nothing is wrong with them, memory was refused
abbrev pub IsUnmade : List PortValues → Fault → Type 0
IsUnmade values (Ports NoPort) = length values ≡ 0
IsUnmade values (Ports TooMany) = most_ports < length values
IsUnmade values (Port fault) = (1 ≤ length values) × (length values ≤ most_ports) × IsFirstBad values fault
IsUnmade values (Ports SameNetwork) = ArePorts values × (AreApart (map port_of values) → ⊥)
IsUnmade values OutOfMemory = ArePorts values × AreApart (map port_of values)
IsUnmade values fault = ⊥

-- what a handle has before a making and after it, and the number that C hears: a new router, or what it had
abbrev pub Makes : Option Machine → Option Machine → List PortValues → ℤ → Type 0
Makes before after values answer =
    ((machine : Machine) × (answer ≡ done) × (after ≡ Some machine) × IsMade values machine)
    ⊎ ((fault : Fault) × (answer ≡ fault_code fault) × (after ≡ before) × IsUnmade values fault)
