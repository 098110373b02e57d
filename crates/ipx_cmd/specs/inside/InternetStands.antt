-- What the machine of an internet's script is by the lines so far.
use Rattle.std.specs.Prelude.{◌≡◌, ◌⊎◌, ℕ, true, List, length, Option, None, Some, is_some, Ok, Err}
use Rattle.ipx_wire.specs.Ends.{Output}
use Rattle.ipx_router.specs.Port.{Port}
use Rattle.ipx_internet.specs.Internet.{Internet}
use Rattle.ipx_internet.specs.Moment.{Moment, SharesNode, StandsFor, net_at}
use Rattle.ipx_internet.specs.Queue.{Queued}
use Rattle.ipx_internet.specs.declared.fault.InternetFault.{InternetFault}
use Rattle.ipx_internet.specs.declared.fault.InternetFault.TheVariants.{SameNode, NoSuchPort, Memory}
use Rattle.ipx_cmd.specs.inside.Acted.{Added}
use Rattle.ipx_cmd.specs.EventText.{most_routes, most_services}
use Rattle.ipx_cmd.specs.InternetMachine.{Led, Standing, latest, nodes_meet, past_of}
use Rattle.ipx_cmd.specs.Making.{named_router}
use Rattle.ipx_cmd.specs.declared.ended.RunFault.TheVariants.{Memory as MemoryFault}
use Rattle.ipx_cmd.specs.declared.lines.fault.LineFault.TheVariants.{SameNode as SameNodeWord, Port as PortWord}
use Rattle.ipx_cmd.specs.declared.lines.halt.Halt.{Halt}
use Rattle.ipx_cmd.specs.declared.lines.halt.Halt.TheVariants.{Line, Run}
use Rattle.ipx_cmd.specs.declared.lines.order.OrderStage.{OrderStage}

-- what a machine is: the ports that were named of each router, the internet, once it is made, and a buffer for the bytes of a packet
pub record InternetMachine : Type 0 where
  pub net : Internet
  pub internet : Option Moment
  pub buffer : List ℕ

-- how far it has come
abbrev pub reached : InternetMachine → OrderStage
reached machine = record { made = is_some machine.internet; routers = length machine.net; ports = length (latest machine.net) }

-- it is the same but for its buffer
pub record IsSame (old new : InternetMachine) : Type 0 where
  pub net : new.net ≡ old.net
  pub internet : new.internet ≡ old.internet

-- there is an internet just where something is known of its past; it is of those routers, and stands for that past
abbrev pub InternetStands : Internet → Option Moment → Option Queued → Type 0
InternetStands net None None = Unit
InternetStands net (Some moment) (Some past) = (net_at moment ≡ net) × StandsFor most_routes most_services moment past
InternetStands net None (Some past) = ⊥
InternetStands net (Some moment) None = ⊥

-- a machine is what the lines so far led to
pub record IsStanding (machine : InternetMachine) (standing : Standing) : Type 0 where
  pub net : machine.net ≡ standing.net
  pub internet : InternetStands standing.net machine.internet standing.past

-- its internet was made, if it wasn't: what happened to it is known
pub record Makes (machine : InternetMachine) (standing : Standing) : Type 0 where
  pub past : Queued
  pub is : past_of standing ≡ Ok past
  pub stands : IsStanding machine (record { net = standing.net; past = Some past })

-- the machine is what was meant, and the text that was meant was added
pub record Leads (machine : InternetMachine) (meant : Led) (from to : Output) (old new : List ℕ) : Type 0 where
  pub after : Standing
  pub said : List ℕ
  pub does : meant ≡ Ok (after, said)
  pub now : IsStanding machine after
  pub added : Added from to old new said

-- ---- making

-- why a router isn't made and added to an internet: it can't be made, a router of the internet shares a node with it, or memory is wanting
abbrev pub IsNotAdded : Internet → List Port → Halt → Type 0
IsNotAdded net ports (Line fault) = (named_router ports ≡ Err fault) ⊎ ((fault ≡ SameNodeWord) × SharesNode net ports)
IsNotAdded net ports (Run why) = why ≡ MemoryFault

-- why no internet is made of routers that can be made: two of them share a node, or memory is wanting
abbrev pub IsUnmade : Internet → Halt → Type 0
IsUnmade net (Line fault) = (fault ≡ SameNodeWord) × (nodes_meet net ≡ true)
IsUnmade net (Run why) = why ≡ MemoryFault

-- what an internet's refusal does to the run
abbrev pub halt_of : InternetFault → Halt
halt_of SameNode = Line SameNodeWord
halt_of NoSuchPort = Line PortWord
halt_of Memory = Run MemoryFault
