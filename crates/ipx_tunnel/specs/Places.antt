-- Places: where datagrams come from. A place is written as a node, the four bytes of its IPv4 address and the two of its port, and
-- this node is its client's on the network.
use Rattle.std.specs.Prelude.{ℕ, Bool, ◌==◌, ◌||◌, nat_eq, List, length, replicate, take}
use Rattle.std.specs.Cmp.Lexicographic.{pointwise}
use Rattle.std.specs.List.{filter, list_any}
use Rattle.ipx_wire.specs.Numbers.{node_size, all_ones, local_network, all_routes}
use Rattle.ipx_wire.specs.declared.network.Network.{Network}
use Rattle.ipx_wire.specs.declared.node.Node.{Node}
use Rattle.ipx_tunnel.specs.Numbers.{address_size}

-- ---- nodes

abbrev pub same_node : Node → Node → Bool
same_node a b = pointwise nat_eq a.0 b.0

-- the node that stands for all, and the one that stands for none
abbrev pub broadcast : Node
broadcast = record { 0 = replicate node_size all_ones }

abbrev pub nobody : Node
nobody = record { 0 = replicate node_size 0 }

-- ---- places

-- both have one IPv4 address
abbrev pub same_address : Node → Node → Bool
same_address a b = pointwise nat_eq (take address_size a.0) (take address_size b.0)

abbrev pub is_among : Node → List Node → Bool
is_among place places = list_any (λ p. same_node p place) places

-- how many of the places have the address of this one
abbrev pub of_address : Node → List Node → ℕ
of_address place places = length (filter (λ p. same_address p place) places)

-- ---- networks

-- a destination's network means this one: it is 0, FFFFFFFFh or its number
abbrev pub is_here : Network → Network → Bool
is_here network to = (to.0 == local_network) || (to.0 == all_routes) || (to.0 == network.0)

-- a source's network means this one: it is 0, of who doesn't know it yet, or its number
abbrev pub is_from_here : Network → Network → Bool
is_from_here network from = (from.0 == local_network) || (from.0 == network.0)
