-- What a segment is told.
use Rattle.std.specs.Prelude.{ℕ, List}
use Rattle.ipx_wire.specs.declared.node.Node.{Node}
use Rattle.ipx_segment.specs.declared.link.Link.{Link}

-- a link goes up or down; a packet is heard at a link, from a node for a node; a node comes to a link, or leaves it; a second passes; the
-- router sends to a node or to all
pub data Event : Type 0 where
  Changes : (link : ℕ) (to : Link) → Event
  Heard : (link : ℕ) (source destination : Node) → Event
  Comes : (link : ℕ) (node : Node) → Event
  Leaves : (link : ℕ) (node : Node) → Event
  Second : Event
  Sends : (destination : Node) → Event

-- what a segment was told since it was made, the latest first
abbrev pub History : Type 0
History = List Event
