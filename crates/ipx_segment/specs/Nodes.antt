-- Nodes on the network of a segment.
use Rattle.std.specs.Prelude.{Bool, ◌==◌, ◌||◌, not, ◌&&◌, if◌then◌else◌, nat_eq, replicate}
use Rattle.std.specs.Cmp.Lexicographic.{pointwise}
use Rattle.ipx_wire.specs.Numbers.{node_size, all_ones, local_network, all_routes}
use Rattle.ipx_wire.specs.declared.address.Address.{Address}
use Rattle.ipx_wire.specs.declared.network.Network.{Network}
use Rattle.ipx_wire.specs.declared.node.Node.{Node}
use Rattle.ipx_segment.specs.declared.setting.Setting.{Setting}

abbrev pub same_node : Node → Node → Bool
same_node a b = pointwise nat_eq a.0 b.0

-- the node that stands for all
abbrev pub broadcast : Node
broadcast = record { 0 = replicate node_size all_ones }

-- a node that a station may have: not the one that stands for all, and not the router's
abbrev pub is_ordinary : Setting → Node → Bool
is_ordinary setting node = not (same_node node broadcast) && not (same_node node setting.node)

-- a destination's network means this one: it is 0, FFFFFFFFh or its number
abbrev pub is_here : Network → Network → Bool
is_here network to = (to.0 == local_network) || (to.0 == all_routes) || (to.0 == network.0)

-- the node of this network that a packet goes to where no frame says it: the destination's if it is on this network, and else the router's
abbrev pub next_node : Setting → Address → Node
next_node setting destination = if is_here setting.network destination.network then destination.node else setting.node
