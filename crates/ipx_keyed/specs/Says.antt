-- What a datagram says.
use Rattle.std.specs.Prelude.{ℕ, Bool, ◌&&◌, ◌||◌, not, if◌then◌else◌, List, Result, Ok, Err}
use Rattle.ipx_wire.specs.Packet.{Parts, packet_of}
use Rattle.ipx_wire.specs.declared.header.Header.{Header}
use Rattle.ipx_wire.specs.declared.network.Network.{Network}
use Rattle.ipx_wire.specs.declared.node.Node.{Node}
use Rattle.ipx_wire.specs.declared.packet.PacketFault.{PacketFault}
use Rattle.ipx_tunnel.specs.Places.{same_node, nobody, is_from_here}
use Rattle.ipx_tunnel.specs.Says.{is_to}
use Rattle.ipx_keyed.specs.declared.said.Said.{Said}
use Rattle.ipx_keyed.specs.declared.said.Said.TheVariants.{Nothing, Registers, Answers, Speaks}
use Rattle.ipx_keyed.specs.declared.sender.Sender.{Sender}

-- the packet names as its source the node that this place has, or the one that it had before, on this network
abbrev pub names : Network → Sender → Header → Bool
names network from header =
    (same_node header.source.node from.node || same_node header.source.node from.former) && is_from_here network header.source.network

-- a packet for nobody registers, if its sender may. Any other says something only if it names a node of the place that it came from. A
-- ping's source node is a cookie, so a packet to the cookie answers the ping
abbrev pub said_by : Network → Sender → Header → Said
said_by network from header =
    if is_to header nobody then (if from.may_register then Registers else Nothing)
    else if not (names network from header) then Nothing
    else if is_to header from.cookies.current || is_to header from.cookies.previous then Answers header.source.node
    else Speaks header

abbrev pub said_in : Network → Sender → Result Parts PacketFault → Said
said_in network from (Err fault) = Nothing
said_in network from (Ok packet) = said_by network from packet.header

-- what the bytes say; no packet says nothing
abbrev pub said : Network → Sender → List ℕ → Said
said network from bytes = said_in network from (packet_of bytes)

-- the node that its sender names: who registers, the one that it is given
abbrev pub node_in : Sender → Said → Node
node_in from Nothing = from.node
node_in from Registers = from.node
node_in from (Answers node) = node
node_in from (Speaks header) = header.source.node
