-- The numbers that mean something to a router, each under one name.
use Rattle.std.specs.Prelude.{ℕ, ◌+◌, ◌*◌}
use Rattle.ipx_wire.specs.Numbers.{most_entries, most_services}
-- ---- numbers of the standard, with those of packets as they stand there

pub use Rattle.ipx_wire.specs.Numbers.{propagated_type, most_routers, rip_socket, sap_socket, local_network, default_route, all_routes}
pub use Rattle.ipx_wire.specs.Numbers.{every_service, unreachable, most_ticks, asked_metric}
pub use Rattle.ipx_wire.specs.Numbers.{header_size, operation_size, entry_size, service_size, type_size, node_size, all_ones}

-- the least that the longest packet of a port may be, in bytes
abbrev pub least_longest : ℕ
least_longest = 576

-- the seconds from one broadcast of all that is advertised to the next
abbrev pub period : ℕ
period = 60

-- ---- choices of this router

-- the most ports that it has
abbrev pub most_ports : ℕ
most_ports = 32

-- the most entries, and the most services, that it puts into one packet: as many as one may have
abbrev pub entries_a_page : ℕ
entries_a_page = most_entries

abbrev pub services_a_page : ℕ
services_a_page = most_services

-- the most bytes of a packet of its own: a full page of services, which is longer than one of entries
abbrev pub most_own_length : ℕ
most_own_length = header_size + operation_size + services_a_page * service_size

-- a share that limits nothing
abbrev pub whole_share : ℕ
whole_share = 0xFFFF
