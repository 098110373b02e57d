-- What a datagram says.
use Rattle.std.specs.Prelude.{ℕ, Bool, ◌==◌, ◌&&◌, ◌||◌, not, if◌then◌else◌, List, [], take, Result, Ok, Err}
use Rattle.ipx_wire.specs.Packet.{Parts, packet_of}
use Rattle.ipx_wire.specs.declared.header.Header.{Header}
use Rattle.ipx_wire.specs.declared.network.Network.{Network}
use Rattle.ipx_wire.specs.declared.node.Node.{Node}
use Rattle.ipx_wire.specs.declared.packet.PacketFault.{PacketFault}
use Rattle.ipx_tunnel.specs.declared.said.Said.{Said}
use Rattle.ipx_tunnel.specs.declared.said.Said.TheVariants.{Nothing, Registers, Answers, Speaks}
use Rattle.ipx_tunnel.specs.declared.sender.Sender.{Sender}
use Rattle.ipx_tunnel.specs.Numbers.{tunnel_socket}
use Rattle.ipx_tunnel.specs.Places.{same_node, nobody, is_from_here}

-- the packet is for the tunnel's socket on that node
abbrev pub is_to : Header → Node → Bool
is_to header node = (header.destination.socket.0 == tunnel_socket) && same_node header.destination.node node

-- the packet names the place where it came from as its source, on this network
abbrev pub names : Network → Node → Header → Bool
names network place header = same_node header.source.node place && is_from_here network header.source.network

-- a packet for nobody registers. Any other says something only if it names the place it came from. A ping's source node is a cookie,
-- so a packet to the cookie answers the ping
abbrev pub said_by : Network → Sender → Header → Said
said_by network from header =
    if is_to header nobody then Registers
    else if not (names network from.place header) then Nothing
    else if is_to header from.cookies.current || is_to header from.cookies.previous then Answers
    else Speaks header

abbrev pub said_in : Network → Sender → Result Parts PacketFault → Said
said_in network from (Err fault) = Nothing
said_in network from (Ok packet) = said_by network from packet.header

-- what the bytes say; no packet says nothing
abbrev pub said : Network → Sender → List ℕ → Said
said network from bytes = said_in network from (packet_of bytes)

-- the packet in the bytes, as long as it says that it is; what lies behind it isn't carried
abbrev pub packet_in : List ℕ → Result Parts PacketFault → List ℕ
packet_in bytes (Err fault) = []
packet_in bytes (Ok packet) = take packet.header.length bytes
