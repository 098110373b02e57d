-- What kind of packet it is, as far as limits differ.
use Rattle.std.specs.Prelude.{ℕ, ◌==◌, ◌||◌, nat_lt, if◌then◌else◌, List, length, Result, Ok, Err}
use Rattle.ipx_wire.specs.Numbers.{rip_socket, sap_socket}
use Rattle.ipx_wire.specs.Packet.{Parts, packet_of}
use Rattle.ipx_wire.specs.Rip.{operation_field}
use Rattle.ipx_wire.specs.declared.header.Header.{Header}
use Rattle.ipx_wire.specs.declared.packet.PacketFault.{PacketFault}
use Rattle.ipx_limits.specs.declared.kind.Kind.{Kind}
use Rattle.ipx_limits.specs.declared.kind.Kind.TheVariants.{Ping, Answer, Question, Told, Other}
use Rattle.ipx_limits.specs.Numbers.{ping_socket, routes_asked, services_asked, nearest_asked}
use Rattle.ipx_limits.specs.Nodes.{same_node, broadcast}

-- the operation of what a router says, or 0 where there is no room for one
abbrev pub operation_of : List ℕ → ℕ
operation_of payload = if nat_lt (length payload) 2 then 0 else operation_field payload

-- what goes to the sockets of routers asks, or tells; of what goes to the socket of pings, or comes from it, a ping is what goes to all
abbrev pub kind_by : Header → ℕ → Kind
kind_by header operation =
    if header.destination.socket.0 == rip_socket then (if operation == routes_asked then Question else Told)
    else if header.destination.socket.0 == sap_socket then
    (if (operation == services_asked) || (operation == nearest_asked) then Question else Told)
    else if header.destination.socket.0 == ping_socket then (if same_node header.destination.node broadcast then Ping else Answer)
    else if header.source.socket.0 == ping_socket then Answer
    else Other

abbrev pub kind_in : Result Parts PacketFault → Kind
kind_in (Err fault) = Other
kind_in (Ok packet) = kind_by packet.header (operation_of packet.payload)

-- the kind of a packet; bytes that are no packet are of no kind that has a limit of its own
abbrev pub kind_of : List ℕ → Kind
kind_of bytes = kind_in (packet_of bytes)
