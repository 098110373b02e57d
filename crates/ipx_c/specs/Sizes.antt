-- How much one router, tunnel or segment of this library can have; and the version of its interface.
use Rattle.std.specs.Prelude.{ℕ, ◌+◌, ◌*◌}
use Rattle.ipx_c.specs.declared.sizes.TheConstants.{MOST_PORTS, MOST_ROUTES, MOST_SERVICES, MOST_CLIENTS, MOST_LINKS, MOST_STATIONS}

-- ports
abbrev pub most_ports : ℕ
most_ports = MOST_PORTS

-- records of its tables
abbrev pub most_routes : ℕ
most_routes = MOST_ROUTES

abbrev pub most_services : ℕ
most_services = MOST_SERVICES

-- clients of a tunnel
abbrev pub most_clients : ℕ
most_clients = MOST_CLIENTS

-- links of a segment, and its stations
abbrev pub most_links : ℕ
most_links = MOST_LINKS

abbrev pub most_stations : ℕ
most_stations = MOST_STATIONS

-- a major number and a minor number
abbrev pub version : ℕ
version = 1 * 65536 + 2
