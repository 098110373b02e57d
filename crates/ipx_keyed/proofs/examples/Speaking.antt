-- What is said comes to whom a cable would bring it, by nodes.
use Rattle.std.proofs.Common.{◌≡◌, true, false, [], ◌∷◌, refl}
use Rattle.ipx_wire.specs.Address.{address_at, address_bytes}
use Rattle.ipx_wire.specs.Header.{header_at, header_bytes}
use Rattle.ipx_wire.specs.Packet.{packet_of}
use Rattle.ipx_tunnel.specs.Places.{broadcast}
use Rattle.ipx_keyed.specs.Events.{Datagram, Send}
use Rattle.ipx_keyed.specs.Own.{own, answer_to}
use Rattle.ipx_keyed.specs.Receivers.{receivers, is_heard}
use Rattle.ipx_keyed.proofs.examples.Players.{setting, tunnel_node, at, node_of, from, address, packet, says_as, says_to, says, three}

-- a broadcast comes to all but its sender
pub to_all : receivers setting (says (from 1 2) ∷ three) ≡ at 1 1 ∷ at 2 1 ∷ []
unfolding packet_of header_at address_at header_bytes address_bytes
to_all = refl

-- and the router hears it
pub all_and_the_router : is_heard setting (says (from 1 2) ∷ three) ≡ true
unfolding packet_of header_at address_at header_bytes address_bytes
all_and_the_router = refl

-- a packet for a node comes to this node's place alone
pub to_one : receivers setting (says_to (node_of 2 1) (from 1 2) ∷ three) ≡ at 2 1 ∷ []
unfolding packet_of header_at address_at header_bytes address_bytes
to_one = refl

-- a place is no node
pub to_a_place : receivers setting (says_to (at 2 1) (from 1 2) ∷ three) ≡ []
unfolding packet_of header_at address_at header_bytes address_bytes
to_a_place = refl

-- the router doesn't hear it
pub one_alone : is_heard setting (says_to (node_of 2 1) (from 1 2) ∷ three) ≡ false
unfolding packet_of header_at address_at header_bytes address_bytes
one_alone = refl

-- the router hears what is for its node
pub to_the_router : is_heard setting (says_to tunnel_node (from 1 2) ∷ three) ≡ true
unfolding packet_of header_at address_at header_bytes address_bytes
to_the_router = refl

-- and what is for another network, which comes to no client
pub to_another_network : is_heard setting (Datagram (from 1 2) (packet (address 0x10 (node_of 1 2) 0x869c) (address 0x20 (node_of 2 1) 0x869c)) ∷ three) ≡ true
unfolding packet_of header_at address_at header_bytes address_bytes
to_another_network = refl

-- and
pub far_from_all : receivers setting (Datagram (from 1 2) (packet (address 0x10 (node_of 1 2) 0x869c) (address 0x20 (node_of 2 1) 0x869c)) ∷ three) ≡ []
unfolding packet_of header_at address_at header_bytes address_bytes
far_from_all = refl

-- who names a fellow player's node is heard by nobody
pub false_source : receivers setting (says_as (node_of 1 1) broadcast (from 1 2) ∷ three) ≡ []
unfolding packet_of header_at address_at header_bytes address_bytes
false_source = refl

-- nor is who names the node that his place has too, but under which he isn't a client
pub other_source : receivers setting (says_as (at 1 2) broadcast (from 1 2) ∷ three) ≡ []
unfolding packet_of header_at address_at header_bytes address_bytes
other_source = refl

-- a client's ping is answered by the tunnel, by its node
pub ping : own setting (Datagram (from 1 2) (packet (address 0 (node_of 1 2) 2) (address 0 broadcast 2)) ∷ three) ≡ answer_to setting (at 1 2) (node_of 1 2) ∷ []
unfolding packet_of header_at address_at header_bytes address_bytes
ping = refl

-- it comes to the others
pub ping_to_others : receivers setting (Datagram (from 1 2) (packet (address 0 (node_of 1 2) 2) (address 0 broadcast 2)) ∷ three) ≡ at 1 1 ∷ at 2 1 ∷ []
unfolding packet_of header_at address_at header_bytes address_bytes
ping_to_others = refl

-- and not to the router
pub ping_not_to_the_router : is_heard setting (Datagram (from 1 2) (packet (address 0 (node_of 1 2) 2) (address 0 broadcast 2)) ∷ three) ≡ false
unfolding packet_of header_at address_at header_bytes address_bytes
ping_not_to_the_router = refl

-- what the router sends to all comes to all
pub router_to_all : receivers setting (Send broadcast [] ∷ three) ≡ at 1 1 ∷ at 1 2 ∷ at 2 1 ∷ []
unfolding packet_of header_at address_at header_bytes address_bytes
router_to_all = refl

-- and what it sends to a node to this node's place
pub router_to_one : receivers setting (Send (node_of 1 2) [] ∷ three) ≡ at 1 2 ∷ []
unfolding packet_of header_at address_at header_bytes address_bytes
router_to_one = refl
