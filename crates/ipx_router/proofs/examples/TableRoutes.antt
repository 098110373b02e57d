-- Routes that a table may have, and such as it may not.
use Rattle.std.proofs.Common.{ℕ, refl, arith, lit<}
use Rattle.std.proofs.lemmas.Bool.{true≢false}
use Rattle.ipx_wire.specs.declared.node.Node.{Node}
use Rattle.ipx_router.specs.Relays.{IsTableRoute}
use Rattle.ipx_router.specs.declared.route_offer.RouteOffer.{RouteOffer}
use Rattle.ipx_router.proofs.examples.Words.{network, node, two_ports, all_nodes}

-- a route to a network, by a port and a neighbour there
abbrev to : ℕ → ℕ → Node → RouteOffer
to number port neighbour = record { network = network number; hops = 1; ticks = 2; port = port; node = neighbour }

-- to network 30h, by a neighbour on port 1
pub one : IsTableRoute two_ports (to 0x30 1 (node 0xbb))
one = record { network = refl; port = lit< tt; neighbour = refl }

-- to the network of one of the ports
pub none_to_its_own : IsTableRoute two_ports (to 0x10 1 (node 0xbb)) → ⊥
none_to_its_own is = true≢false is.network

-- to the local network, and to that of all routes
pub none_to_the_local : IsTableRoute two_ports (to 0 1 (node 0xbb)) → ⊥
none_to_the_local is = true≢false is.network

pub none_to_all : IsTableRoute two_ports (to 0xffffffff 1 (node 0xbb)) → ⊥
none_to_all is = true≢false is.network

-- by a port that there isn't
pub none_by_a_third_port : IsTableRoute two_ports (to 0x30 2 (node 0xbb)) → ⊥
none_by_a_third_port is = omega (arith, is.port)

-- by all nodes at once
pub none_by_the_broadcast : IsTableRoute two_ports (to 0x30 1 all_nodes) → ⊥
none_by_the_broadcast is = true≢false is.neighbour
