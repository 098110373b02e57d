-- What is said on a cable in the name of a neighbour that says nothing itself: routes or services by way of it (own).
use Rattle.std.specs.Prelude.{ℕ, false, List}
use Rattle.ipx_wire.specs.Numbers.{rip_socket, sap_socket}
use Rattle.ipx_wire.specs.Packet.{Parts}
use Rattle.ipx_wire.specs.Write.{rip_packet_parts}
use Rattle.ipx_wire.specs.WriteServices.{sap_packet_parts}
use Rattle.ipx_wire.specs.declared.address.Address.{Address}
use Rattle.ipx_wire.specs.declared.node.Node.{Node}
use Rattle.ipx_wire.specs.declared.rip.Operation.TheVariants.{Response}
use Rattle.ipx_wire.specs.declared.rip.RipEntry.{RipEntry}
use Rattle.ipx_wire.specs.declared.service.Service.{Service}
use Rattle.ipx_router.specs.Port.{Port, everyone, every_server}

-- a node on the port's network, and a socket there
abbrev pub neighbour_at : Port → Node → ℕ → Address
neighbour_at port node socket = record { network = port.network; node = node; socket = record { 0 = socket } }

-- a response of routes to all routers on the cable, from the node
abbrev pub static_routes : Port → Node → List RipEntry → Parts
static_routes port node entries = rip_packet_parts (neighbour_at port node rip_socket) (everyone port) Response entries

-- a general response of services to all servers and routers on the cable, from the node
abbrev pub static_services : Port → Node → List Service → Parts
static_services port node services = sap_packet_parts (neighbour_at port node sap_socket) (every_server port) false services
