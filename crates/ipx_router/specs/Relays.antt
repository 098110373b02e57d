-- Packets that a router sends on (IPX Router Specification, packet forwarding and NetBIOS propagation): to the network
-- they are for, or to every other network.
use Rattle.std.specs.Prelude.{◌≡◌, ◌≢◌, ℕ, ◌<◌, ◌≤◌, ◌==◌, ◌&&◌, nat_le, Bool, true, false, not, if◌then◌else◌, List, [], ◌∷◌, length, None, Some}
use Rattle.std.specs.List.{flat_map}
use Rattle.ipx_wire.specs.Crossed.{IsCrossed, networks_at, is_among}
use Rattle.ipx_wire.specs.Forward.{forwarded, propagated}
use Rattle.ipx_wire.specs.Packet.{Parts, IsPacket}
use Rattle.ipx_wire.specs.Write.{packet_bytes}
use Rattle.ipx_wire.specs.declared.network.Network.{Network}
use Rattle.ipx_wire.specs.declared.node.Node.{Node}
use Rattle.ipx_router.specs.Numbers.{most_routers}
use Rattle.ipx_router.specs.Outgoing.{way_to, is_own_port}
use Rattle.ipx_router.specs.Port.{Port, broadcast, port_at, is_up, same_node, takes_no_route}
use Rattle.ipx_router.specs.Why.{is_propagated, is_far, is_own_echo, is_bad_source}
use Rattle.ipx_router.specs.declared.route_offer.RouteOffer.{RouteOffer}

-- a packet that a router sent: the port on which it leaves, the node to which the link sends it, and its bytes
pub record Sent : Type 0 where
  pub port : ℕ
  pub link : Node
  pub bytes : List ℕ

-- ---- as a relation, over any tables and any ports that are up

-- a route that a table may have: to a network to which routes are taken, by one of the ports, and by one neighbour
pub record IsTableRoute (ports : List Port) (r : RouteOffer) : Type 0 where
  pub network : takes_no_route ports r.network ≡ false
  pub port : r.port < length ports
  pub neighbour : same_node r.node broadcast ≡ false

-- a packet may be sent on: both ports are up, it is neither the port's own nor from a broadcast, and it isn't longer than
-- the outgoing port allows
pub record MayLeave (ports : List Port) (up : List ℕ) (number : ℕ) (p : Parts) (out : ℕ) : Type 0 where
  pub comes_up : is_up up number ≡ true
  pub leaves_up : is_up up out ≡ true
  pub no_echo : is_own_echo (port_at ports number) p.header ≡ false
  pub source : is_bad_source p.header ≡ false
  pub short : p.header.length ≤ (port_at ports out).longest

-- a packet for another network leaves by the way there, with its transport control one higher
pub record IsForwarded (ports : List Port) (up : List ℕ) (routes : List RouteOffer) (number : ℕ) (bytes : List ℕ) (s : Sent) : Type 0 where
  pub packet : Parts
  pub is : IsPacket bytes packet
  pub far : is_far (port_at ports number) packet.header ≡ true
  pub few : packet.header.control < most_routers
  pub elsewhere : is_own_port ports packet.header.destination ≡ false
  pub way : way_to ports up routes packet.header.destination ≡ Some (record { port = s.port; link = s.link })
  pub leaves : MayLeave ports up number packet s.port
  pub written : s.bytes ≡ packet_bytes (forwarded packet)

-- a propagated packet leaves on another port, if it has crossed neither that port's network nor the one on which it came
pub record IsPropagated (ports : List Port) (up : List ℕ) (number : ℕ) (bytes : List ℕ) (s : Sent) : Type 0 where
  pub packet : Parts
  pub is : IsPacket bytes packet
  pub all : is_propagated packet.header ≡ true
  pub networks : List Network
  pub crossed : IsCrossed packet.header.control packet.payload networks
  pub other : s.port ≢ number
  pub new_here : is_among (port_at ports number).network networks ≡ false
  pub new_there : is_among (port_at ports s.port).network networks ≡ false
  pub link : s.link ≡ broadcast
  pub leaves : MayLeave ports up number packet s.port
  pub written : s.bytes ≡ packet_bytes (propagated (port_at ports number).network (port_at ports s.port).network packet)

-- ---- as the list of what leaves, for packets that no check drops

-- a far packet, by the way to its network
abbrev pub forwarded_by : List Port → List ℕ → List RouteOffer → Parts → List Sent
forwarded_by ports up routes p =
    elim (way_to ports up routes p.header.destination) [
      | Some way ↦ record { port = way.port; link = way.link; bytes = packet_bytes (forwarded p) } ∷ []
      | None ↦ []
    ]

-- a propagated packet goes out on another port whose network it hasn't crossed, if it isn't too long for it
abbrev pub goes_out : List Port → ℕ → Parts → ℕ → Bool
goes_out ports number p out =
    not (out == number) && not (is_among (port_at ports out).network (networks_at p.header.control p.payload))
    && nat_le p.header.length (port_at ports out).longest

-- a propagated packet on a port, if it goes out there
abbrev pub propagated_on : List Port → ℕ → Parts → ℕ → List Sent
propagated_on ports number p out =
    if goes_out ports number p out then record {
      port = out;
      link = broadcast;
      bytes = packet_bytes (propagated (port_at ports number).network (port_at ports out).network p);
    } ∷ []
    else []

-- all that leaves of a packet, ports in order
abbrev pub relayed : List Port → List ℕ → List RouteOffer → ℕ → Parts → List Sent
relayed ports up routes number p =
    if is_propagated p.header then flat_map (propagated_on ports number p) up
    else if is_far (port_at ports number) p.header then forwarded_by ports up routes p
    else []
