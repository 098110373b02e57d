-- A packet that a router is only asked to send on: what becomes of it, and what leaves.
use Rattle.std.proofs.Common.{◌≡◌, ℕ, Bool, true, false, List, [], ◌∷◌, ◌++◌, refl, codes, replicate, Option, None, Some, Ok, Err}
use Rattle.hex.specs.Hex.{decode_pairs}
use Rattle.ipx_wire.specs.Address.{address_bytes, address_at}
use Rattle.ipx_wire.specs.Crossed.{network_bytes, network_at}
use Rattle.ipx_wire.specs.Header.{header_bytes, header_at}
use Rattle.ipx_wire.specs.Items.{items}
use Rattle.ipx_wire.specs.Packet.{packet_of}
use Rattle.ipx_wire.specs.Rip.{rip_of, entry_at}
use Rattle.ipx_router.specs.History.{Start}
use Rattle.ipx_router.specs.Relay.{relay_outcome, relay_sends}
use Rattle.ipx_router.specs.Relays.{Sent}
use Rattle.ipx_router.specs.declared.outcome.Outcome.{Outcome}
use Rattle.ipx_router.specs.declared.outcome.Outcome.TheVariants.{Forwarded, Propagated, Local, Dropped}
use Rattle.ipx_router.specs.declared.why.Why.TheVariants.{NotRunning, Elsewhere, OtherSocket, TooManyRouters, FarSide, NoRoute, DownPort}
use Rattle.ipx_router.proofs.examples.Words.{hex, node, two_ports, dropped_by, out, all_nodes, general_request}

-- what becomes of a packet that comes on a port, where those ports are up and no route is held
abbrev told : List ℕ → Bool → ℕ → List ℕ → Option Outcome
told up running port bytes = elim (packet_of bytes) [ Ok p ↦ Some (relay_outcome two_ports up [] running port p) | Err fault ↦ None ]

-- and what leaves of it
abbrev leaves : List ℕ → ℕ → List ℕ → List Sent
leaves up port bytes = elim (packet_of bytes) [ Ok p ↦ relay_sends two_ports up [] true port p | Err fault ↦ [] ]

-- from node AAh on network 10h to node CCh on network 20h
abbrev to_c : List ℕ
to_c = hex (codes "FFFF001E0000000000200000000000CC4003000000100000000000AA4003")

-- from node 99h on network 20h, by network 10h, to a socket of the router that has no process
abbrev to_no_process : List ℕ
to_no_process = hex (codes "FFFF001E0000000000100000000000014003000000200000000000994003")

-- to another node of network 10h
abbrev to_another : List ℕ
to_another = hex (codes "FFFF001E0000000000100000000000CC4003000000100000000000AA4003")

-- to node 2 on network 20h, which is port 1
abbrev to_the_port : List ℕ
to_the_port = hex (codes "FFFF001E0000000000200000000000024003000000100000000000AA4003")

-- to node 2 on network 20h, through sixteen routers
abbrev far_to_the_port : List ℕ
far_to_the_port = hex (codes "FFFF001E1000000000200000000000024003000000100000000000AA4003")

-- from node AAh on network 10h to all networks
abbrev to_all : List ℕ
to_all = hex (codes "FFFF003E001400000010FFFFFFFFFFFF0455000000100000000000AA0455") ++ replicate 32 0

-- a request stays, and nothing leaves
pub a_request_stays : told (0 ∷ 1 ∷ []) true 0 general_request ≡ Some Local
unfolding decode_pairs header_bytes address_bytes packet_of header_at address_at items network_at
a_request_stays = refl

pub nothing_leaves_of_it : leaves (0 ∷ 1 ∷ []) 0 general_request ≡ []
unfolding decode_pairs header_bytes address_bytes packet_of header_at address_at items network_at
nothing_leaves_of_it = refl

-- on a port that is down it is dropped
pub down_before_local : told (1 ∷ []) true 0 general_request ≡ Some (Dropped DownPort)
unfolding decode_pairs header_bytes address_bytes packet_of header_at address_at items network_at
down_before_local = refl

-- and in a stopped router
pub stopped_before_down : told [] false 0 general_request ≡ Some (Dropped NotRunning)
unfolding decode_pairs header_bytes address_bytes packet_of header_at address_at items network_at
stopped_before_down = refl

-- its socket isn't looked at, nor is where it comes from
pub no_process_is_asked : told (0 ∷ 1 ∷ []) true 0 to_no_process ≡ Some Local
unfolding decode_pairs header_bytes address_bytes packet_of header_at address_at items network_at
no_process_is_asked = refl

pub its_process_is_asked_of_what_comes : dropped_by (Start ∷ []) 0 to_no_process ≡ Some OtherSocket
unfolding decode_pairs header_bytes address_bytes packet_of header_at address_at items network_at rip_of entry_at
its_process_is_asked_of_what_comes = refl

-- for another node, also on a port that is down
pub elsewhere_before_down : told (1 ∷ []) true 0 to_another ≡ Some (Dropped Elsewhere)
unfolding decode_pairs header_bytes address_bytes packet_of header_at address_at items network_at
elsewhere_before_down = refl

-- for a port of the router that is down, so that there is no route to its network either
pub far_side_before_no_route : told (0 ∷ []) true 0 to_the_port ≡ Some (Dropped FarSide)
unfolding decode_pairs header_bytes address_bytes packet_of header_at address_at items network_at
far_side_before_no_route = refl

pub too_many_routers_before_far_side : told (0 ∷ []) true 0 far_to_the_port ≡ Some (Dropped TooManyRouters)
unfolding decode_pairs header_bytes address_bytes packet_of header_at address_at items network_at
too_many_routers_before_far_side = refl

pub no_route_to_a_port_that_is_down : told (0 ∷ []) true 0 to_c ≡ Some (Dropped NoRoute)
unfolding decode_pairs header_bytes address_bytes packet_of header_at address_at items network_at
no_route_to_a_port_that_is_down = refl

-- to a network of the router's own
pub forwarded : told (0 ∷ 1 ∷ []) true 0 to_c ≡ Some Forwarded
unfolding decode_pairs header_bytes address_bytes packet_of header_at address_at items network_at
forwarded = refl

pub forwarded_bytes : leaves (0 ∷ 1 ∷ []) 0 to_c ≡ out 1 (node 0xCC) (hex (codes "FFFF001E0100000000200000000000CC4003000000100000000000AA4003")) ∷ []
unfolding decode_pairs header_bytes address_bytes packet_of header_at address_at items network_at
forwarded_bytes = refl

-- to all networks; never on the port on which it came
pub propagated : told (0 ∷ 1 ∷ []) true 0 to_all ≡ Some Propagated
unfolding decode_pairs header_bytes address_bytes network_bytes packet_of header_at address_at items network_at
propagated = refl

pub propagated_bytes : leaves (0 ∷ 1 ∷ []) 0 to_all
    ≡ out 1 all_nodes (hex (codes "FFFF003E011400000020FFFFFFFFFFFF0455000000100000000000AA045500000010") ++ replicate 28 0)
    ∷ []
unfolding decode_pairs header_bytes address_bytes network_bytes packet_of header_at address_at items network_at
propagated_bytes = refl

-- where the other port is down nothing leaves
pub propagated_nowhere : told (0 ∷ []) true 0 to_all ≡ Some Propagated
unfolding decode_pairs header_bytes address_bytes network_bytes packet_of header_at address_at items network_at
propagated_nowhere = refl

pub nothing_is_propagated : leaves (0 ∷ []) 0 to_all ≡ []
unfolding decode_pairs header_bytes address_bytes network_bytes packet_of header_at address_at items network_at
nothing_is_propagated = refl
