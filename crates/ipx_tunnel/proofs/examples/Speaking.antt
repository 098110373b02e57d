-- What is said comes to whom a cable would bring it.
use Rattle.std.proofs.Common.{◌≡◌, true, false, [], ◌∷◌, refl}
use Rattle.ipx_wire.specs.Address.{address_at, address_bytes}
use Rattle.ipx_wire.specs.Header.{header_at, header_bytes}
use Rattle.ipx_wire.specs.Packet.{packet_of}
use Rattle.ipx_tunnel.specs.Places.{broadcast}
use Rattle.ipx_tunnel.specs.Events.{Datagram, Send}
use Rattle.ipx_tunnel.specs.Own.{own, answer_to, ping_to}
use Rattle.ipx_tunnel.specs.Receivers.{receivers, is_heard}
use Rattle.ipx_tunnel.proofs.examples.Players.{setting, tunnel_node, at, cookie_of, from, address, packet, answers, says_to, says, three}

-- a broadcast comes to all but its sender
pub to_all : receivers setting (says (from 1 2) ∷ three) ≡ at 1 1 ∷ at 2 1 ∷ []
unfolding packet_of header_at address_at header_bytes address_bytes
to_all = refl

-- and the router hears it
pub all_and_the_router : is_heard setting (says (from 1 2) ∷ three) ≡ true
unfolding packet_of header_at address_at header_bytes address_bytes
all_and_the_router = refl

-- a packet for a node comes to it alone
pub to_one : receivers setting (says_to (at 2 1) (from 1 2) ∷ three) ≡ at 2 1 ∷ []
unfolding packet_of header_at address_at header_bytes address_bytes
to_one = refl

-- and the router doesn't hear it
pub one_alone : is_heard setting (says_to (at 2 1) (from 1 2) ∷ three) ≡ false
unfolding packet_of header_at address_at header_bytes address_bytes
one_alone = refl

-- a packet for a node that isn't there comes to nobody
pub to_none : receivers setting (says_to (at 9 9) (from 1 2) ∷ three) ≡ []
unfolding packet_of header_at address_at header_bytes address_bytes
to_none = refl

-- the router hears what is for its node
pub to_the_router : is_heard setting (says_to tunnel_node (from 1 2) ∷ three) ≡ true
unfolding packet_of header_at address_at header_bytes address_bytes
to_the_router = refl

-- and what is for another network, which comes to no client
pub to_another_network : is_heard setting (Datagram (from 1 2) (packet (address 0x10 (at 1 2) 0x869c) (address 0x20 (at 2 1) 0x869c)) ∷ three) ≡ true
unfolding packet_of header_at address_at header_bytes address_bytes
to_another_network = refl

-- and
pub far_from_all : receivers setting (Datagram (from 1 2) (packet (address 0x10 (at 1 2) 0x869c) (address 0x20 (at 2 1) 0x869c)) ∷ three) ≡ []
unfolding packet_of header_at address_at header_bytes address_bytes
far_from_all = refl

-- who names another source is heard by nobody
pub false_source : receivers setting (Datagram (from 1 2) (packet (address 0x10 (at 1 1) 0x869c) (address 0x10 broadcast 0x869c)) ∷ three) ≡ []
unfolding packet_of header_at address_at header_bytes address_bytes
false_source = refl

-- not by the router either
pub false_source_router : is_heard setting (Datagram (from 1 2) (packet (address 0x10 (at 1 1) 0x869c) (address 0x10 broadcast 0x869c)) ∷ three) ≡ false
unfolding packet_of header_at address_at header_bytes address_bytes
false_source_router = refl

-- who is no client is heard by nobody
pub stranger : receivers setting (says (from 3 1) ∷ answers (from 1 1) ∷ []) ≡ []
unfolding packet_of header_at address_at header_bytes address_bytes
stranger = refl

-- but pinged, where there is room
pub stranger_is_pinged : own setting (says (from 3 1) ∷ answers (from 1 1) ∷ []) ≡ ping_to setting.network (at 3 1) (cookie_of 3 1 2) ∷ []
unfolding packet_of header_at address_at header_bytes address_bytes
stranger_is_pinged = refl

-- a client's ping is answered by the tunnel
pub ping : own setting (Datagram (from 1 2) (packet (address 0 (at 1 2) 2) (address 0 broadcast 2)) ∷ three) ≡ answer_to setting (at 1 2) ∷ []
unfolding packet_of header_at address_at header_bytes address_bytes
ping = refl

-- it comes to the others
pub ping_to_others : receivers setting (Datagram (from 1 2) (packet (address 0 (at 1 2) 2) (address 0 broadcast 2)) ∷ three) ≡ at 1 1 ∷ at 2 1 ∷ []
unfolding packet_of header_at address_at header_bytes address_bytes
ping_to_others = refl

-- and not to the router
pub ping_not_to_the_router : is_heard setting (Datagram (from 1 2) (packet (address 0 (at 1 2) 2) (address 0 broadcast 2)) ∷ three) ≡ false
unfolding packet_of header_at address_at header_bytes address_bytes
ping_not_to_the_router = refl

-- what the router sends to all comes to all
pub router_to_all : receivers setting (Send broadcast [] ∷ three) ≡ at 1 1 ∷ at 1 2 ∷ at 2 1 ∷ []
unfolding packet_of header_at address_at header_bytes address_bytes
router_to_all = refl

-- and what it sends to one to this one
pub router_to_one : receivers setting (Send (at 1 2) [] ∷ three) ≡ at 1 2 ∷ []
unfolding packet_of header_at address_at header_bytes address_bytes
router_to_one = refl
