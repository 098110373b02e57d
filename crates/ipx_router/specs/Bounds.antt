-- How many packets an event sends at most, and how long they are at most.
use Rattle.std.specs.Prelude.{ℕ, ◌+◌, ◌-◌, ◌*◌, max, Ok, Err}
use Rattle.ipx_wire.specs.Packet.{packet_of}
use Rattle.ipx_router.specs.History.{Event, Start, Stop, Second, Packet, PortDown, PortUp}
use Rattle.ipx_router.specs.Numbers.{entries_a_page, services_a_page, most_own_length}
use Rattle.ipx_router.specs.Pages.{sheets}

-- the most packets that all routes take on one port, in a router with this many ports and routes: the networks of the other ports
-- are advertised too
abbrev pub route_sheets : ℕ → ℕ → ℕ
route_sheets ports routes = sheets entries_a_page (routes + ports - 1)

-- the most packets that all services take on one port
abbrev pub service_sheets : ℕ → ℕ
service_sheets services = sheets services_a_page services

-- and both of them
abbrev pub all_sheets : ℕ → ℕ → ℕ → ℕ
all_sheets ports routes services = route_sheets ports routes + service_sheets services

-- the most packets that an event sends, in a router with this many ports, routes and services before it
abbrev pub most_packets : ℕ → ℕ → ℕ → Event → ℕ
most_packets ports routes services Start = 3 * ports
most_packets ports routes services Stop = ports * all_sheets ports routes services
most_packets ports routes services Second = ports * all_sheets ports routes services
most_packets ports routes services (Packet number bytes) = max ports (max (route_sheets ports routes) (service_sheets services))
most_packets ports routes services (PortDown number) = (ports - 1) * all_sheets ports routes services
most_packets ports routes services (PortUp number) = ports + 1 + route_sheets ports routes + service_sheets services

-- the most bytes of a packet that an event sends: of one of the router's own, or of the packet that came
abbrev pub most_length : Event → ℕ
most_length (Packet number bytes) = elim (packet_of bytes) [ Ok p ↦ max most_own_length p.header.length | Err fault ↦ most_own_length ]
most_length event = most_own_length
