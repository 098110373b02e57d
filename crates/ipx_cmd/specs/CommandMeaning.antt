-- All that a line of a script for one router may ask for.
use Rattle.std.specs.Prelude.{ℕ, List}
use Rattle.ipx_router.specs.Port.{Port as PortValues}
use Rattle.ipx_cmd.specs.declared.lines.command.Command.{Command}
use Rattle.ipx_cmd.specs.declared.lines.command.NamedPort.{NamedPort}
use Rattle.ipx_cmd.specs.declared.lines.command.Command.TheVariants.{Port, Start, Stop, Second, Packet, PortDown, PortUp, Routes, Services}

-- what a command asks for: the router's next port, an event of it, or what is in one of its tables
pub data CommandMeaning : Type 0 where
  NextPort : (values : PortValues) → CommandMeaning
  Starts : CommandMeaning
  Stops : CommandMeaning
  SecondsPass : (seconds : ℕ) → CommandMeaning
  PacketComes : (port : ℕ) (bytes : List ℕ) → CommandMeaning
  PortGoesDown : (port : ℕ) → CommandMeaning
  PortComesUp : (port : ℕ) → CommandMeaning
  ShowsRoutes : CommandMeaning
  ShowsServices : CommandMeaning

-- the values that a line names
abbrev pub values_of : NamedPort → PortValues
values_of named = record {
  network = named.network;
  node = named.node;
  cost = named.cost;
  longest = named.longest;
  route_share = named.routes;
  service_share = named.services;
}

-- the next port, as a line names it
abbrev pub next_port : NamedPort → CommandMeaning
next_port named = NextPort (values_of named)

-- what a command says; the bytes of a packet lie in a buffer
abbrev pub command_says : List ℕ → Command → CommandMeaning
command_says buffer (Port named) = next_port named
command_says buffer Start = Starts
command_says buffer Stop = Stops
command_says buffer (Second count) = SecondsPass count
command_says buffer (Packet port) = PacketComes port buffer
command_says buffer (PortDown port) = PortGoesDown port
command_says buffer (PortUp port) = PortComesUp port
command_says buffer Routes = ShowsRoutes
command_says buffer Services = ShowsServices
