-- The numbers of the standard that mean something (IPX Router Specification), each under one name, for every crate.
use Rattle.std.specs.Prelude.{ℕ}

-- ---- packets and forwarding

-- the checksum of a packet that has none
abbrev pub no_checksum : ℕ
no_checksum = 0xFFFF

-- the types of packets of routing information and of service advertising
abbrev pub rip_type : ℕ
rip_type = 1

abbrev pub sap_type : ℕ
sap_type = 4

-- packets of this type to the broadcast node are propagated (NetBIOS)
abbrev pub propagated_type : ℕ
propagated_type = 20

-- the networks crossed that a packet has room for, and the bytes that they take
abbrev pub crossed_places : ℕ
crossed_places = 8

abbrev pub crossed_bytes : ℕ
crossed_bytes = 32

-- the most routers that a packet goes through
abbrev pub most_routers : ℕ
most_routers = 16

-- ---- addresses

-- the sockets of RIP and of SAP
abbrev pub rip_socket : ℕ
rip_socket = 0x453

abbrev pub sap_socket : ℕ
sap_socket = 0x452

-- network numbers that no port may have: that of the network at hand, whichever it is; of the default route; of all routes, in
-- a request
abbrev pub local_network : ℕ
local_network = 0

abbrev pub default_route : ℕ
default_route = 0xFFFFFFFE

abbrev pub all_routes : ℕ
all_routes = 0xFFFFFFFF

-- ---- routing information and service advertising

-- the entries of routing information, and those of service advertising, that one packet may have
abbrev pub most_entries : ℕ
most_entries = 50

abbrev pub most_services : ℕ
most_services = 7

-- the service type that matches every type, in a query
abbrev pub every_service : ℕ
every_service = 0xFFFF

-- a network or a service that is this many hops away, or more, is unreachable
abbrev pub unreachable : ℕ
unreachable = 16

-- the most ticks that an entry says; those of an unreachable network too
abbrev pub most_ticks : ℕ
most_ticks = 0xFFFF

-- the hops and the ticks of an entry that asks for all routes
abbrev pub asked_metric : ℕ
asked_metric = 0xFFFF

-- ---- sizes of the layouts, in bytes

-- a header
abbrev pub header_size : ℕ
header_size = 30

-- the operation, in front of entries, of services, or of the type that is asked for
abbrev pub operation_size : ℕ
operation_size = 2

-- an entry of routing information
abbrev pub entry_size : ℕ
entry_size = 8

-- a service, and the type of one
abbrev pub service_size : ℕ
service_size = 64

abbrev pub type_size : ℕ
type_size = 2

-- a node number, and a byte of the one that stands for all nodes
abbrev pub node_size : ℕ
node_size = 6

abbrev pub all_ones : ℕ
all_ones = 0xFF
