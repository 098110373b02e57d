-- How much one router, tunnel or segment has in the library as it is delivered. For a library of other sizes tools/sized writes the numbers anew.
use Rattle.std.proofs.Common.{◌≡◌, refl}
use Rattle.ipx_c.specs.Sizes.{most_ports, most_routes, most_services, most_clients, most_links, most_stations}

ports : most_ports ≡ 32
ports = refl

routes : most_routes ≡ 2048
routes = refl

services : most_services ≡ 1024
services = refl

clients : most_clients ≡ 4096
clients = refl

links : most_links ≡ 32
links = refl

stations : most_stations ≡ 8192
stations = refl
