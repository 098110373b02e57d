-- Broadcasts that are copied to another network, for games that look for each other on their own network alone. Routers don't do this.
use Rattle.std.specs.Prelude.{ℕ, Bool, false, ◌==◌, ◌&&◌, not, List, ◌++◌, take, drop, Result, Ok, Err}
use Rattle.std.specs.Int.{to_be_bytes, w32}
use Rattle.std.specs.List.{list_any}
use Rattle.ipx_wire.specs.Numbers.{propagated_type}
use Rattle.ipx_wire.specs.Packet.{Parts, packet_of}
use Rattle.ipx_wire.specs.declared.header.Header.{Header}
use Rattle.ipx_wire.specs.declared.network.Network.{Network}
use Rattle.ipx_wire.specs.declared.packet.PacketFault.{PacketFault}
use Rattle.ipx_wire.specs.declared.socket.Socket.{Socket}
use Rattle.ipx_tunnel.specs.Places.{same_node, broadcast, is_here}

-- the destination's network stands in the four bytes from here on
abbrev pub network_place : ℕ
network_place = 6

abbrev pub network_end : ℕ
network_end = 10

-- the socket is one of those that a network names
abbrev pub is_named : List Socket → Socket → Bool
is_named sockets socket = list_any (λ s. s.0 == socket.0) sockets

-- the packet is a broadcast on a network, to a socket that this network names. Its source names the network, so that answers find the way
-- back; and routers carry it nowhere by themselves
abbrev pub is_extended_by : Network → List Socket → Header → Bool
is_extended_by network sockets header =
    same_node header.destination.node broadcast && is_here network header.destination.network && (header.source.network.0 == network.0)
    && is_named sockets header.destination.socket && not (header.kind == propagated_type)

abbrev pub is_extended_in : Network → List Socket → Result Parts PacketFault → Bool
is_extended_in network sockets (Err fault) = false
is_extended_in network sockets (Ok packet) = is_extended_by network sockets packet.header

-- bytes that came on a network are copied to the other networks that name the socket
abbrev pub is_extended : Network → List Socket → List ℕ → Bool
is_extended network sockets bytes = is_extended_in network sockets (packet_of bytes)

-- the copy for another network: the same bytes, but for the destination's network
abbrev pub extended : Network → List ℕ → List ℕ
extended to bytes = take network_place bytes ++ to_be_bytes w32 to.0 ++ drop network_end bytes

-- the packet of the copy
abbrev pub with_network : Network → Parts → Parts
with_network to packet = record packet { header = record packet.header { destination = record packet.header.destination { network = to } } }
