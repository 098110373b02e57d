-- The node that stands for all.
use Rattle.std.specs.Prelude.{Bool, nat_eq, replicate}
use Rattle.std.specs.Cmp.Lexicographic.{pointwise}
use Rattle.ipx_wire.specs.Numbers.{node_size, all_ones}
use Rattle.ipx_wire.specs.declared.node.Node.{Node}

abbrev pub same_node : Node → Node → Bool
same_node a b = pointwise nat_eq a.0 b.0

abbrev pub broadcast : Node
broadcast = record { 0 = replicate node_size all_ones }
