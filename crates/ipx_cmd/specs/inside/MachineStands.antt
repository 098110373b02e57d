-- What the machine of a script is by the lines so far, and what a command makes of it.
use Rattle.std.specs.Prelude.{◌≡◌, ℕ, List, length, Option, None, Some, Ok, is_some}
use Rattle.ipx_wire.specs.Ends.{Output}
use Rattle.ipx_router.specs.History.{History}
use Rattle.ipx_router.specs.Port.{Port}
use Rattle.ipx_router.specs.Stands.{State, StandsFor}
use Rattle.ipx_cmd.specs.EventText.{most_routes, most_services}
use Rattle.ipx_cmd.specs.inside.Acted.{Added}
use Rattle.ipx_cmd.specs.Machine.{Led, Standing, past_of}
use Rattle.ipx_cmd.specs.declared.lines.command.Stage.{Stage}

-- what a machine is: the ports that were named, the router, once it is made, and a buffer for the bytes of a packet
pub record Machine : Type 0 where
  pub ports : List Port
  pub router : Option State
  pub buffer : List ℕ

-- how far it has come
abbrev pub reached : Machine → Stage
reached machine = record { made = is_some machine.router; ports = length machine.ports }

-- it is the same but for its buffer
pub record IsSame (old new : Machine) : Type 0 where
  pub ports : new.ports ≡ old.ports
  pub router : new.router ≡ old.router

-- there is a router just where there is a history; it is of those ports, and stands for that history
abbrev pub RouterStands : List Port → Option State → Option History → Type 0
RouterStands ports None None = Unit
RouterStands ports (Some router) (Some history) = (router.ports ≡ ports) × StandsFor most_routes most_services router history
RouterStands ports None (Some history) = ⊥
RouterStands ports (Some router) None = ⊥

-- a machine is what the lines so far led to
pub record IsStanding (machine : Machine) (standing : Standing) : Type 0 where
  pub ports : machine.ports ≡ standing.ports
  pub router : RouterStands standing.ports machine.router standing.past

-- its router was made, if it wasn't: what happened to it is known
pub record Makes (machine : Machine) (standing : Standing) : Type 0 where
  pub past : History
  pub is : past_of standing ≡ Ok past
  pub stands : IsStanding machine (record { ports = standing.ports; past = Some past })

-- the machine is what was meant, and the text that was meant was added
pub record Leads (machine : Machine) (meant : Led) (from to : Output) (old new : List ℕ) : Type 0 where
  pub after : Standing
  pub said : List ℕ
  pub does : meant ≡ Ok (after, said)
  pub now : IsStanding machine after
  pub added : Added from to old new said
