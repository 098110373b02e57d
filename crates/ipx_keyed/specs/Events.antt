-- What a tunnel is told.
use Rattle.std.specs.Prelude.{ℕ, List}
use Rattle.ipx_wire.specs.declared.node.Node.{Node}
use Rattle.ipx_keyed.specs.declared.sender.Sender.{Sender}

-- a datagram came from a place, a second passed, or the router sends a packet to a node or to all
pub data Event : Type 0 where
  Datagram : (from : Sender) (bytes : List ℕ) → Event
  Second : Event
  Send : (to : Node) (bytes : List ℕ) → Event

-- what a tunnel was told since it was made, the latest first
abbrev pub History : Type 0
History = List Event
