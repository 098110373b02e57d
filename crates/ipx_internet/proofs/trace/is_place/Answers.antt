use Rattle.ipx_internet.specs.Internet.{ports_of}
use Rattle.ipx_internet.specs.inside.Simulated.{net_among}
use Rattle.ipx_internet.proofs.deliveries.PortsAtANumber.{no_ports, ports_there, told, untold}
use Rattle.ipx_internet.proofs.trace.is_place.Goals as goal

pub has_port-requires : goal.has_port-requires
has_port-requires g c = first_of (assumption c.well_formed, search c.well_formed)

pub returns-in-Some : goal.returns-in-Some
returns-in-Some g c =
    let routers = c.args.routers.now in
    let s = c.in-Some.router.now in
    let read = c.in-Some.ensures.lookup in
    told (ports_of (net_among routers) c.args.router) c.args.port s.ports c.has_port.result
    (ports_there routers c.args.router s read.3.0 read.1) c.has_port.ensures

pub returns-in-None : goal.returns-in-None
returns-in-None g c =
    let routers = c.args.routers.now in
    untold (ports_of (net_among routers) c.args.router) c.args.port (no_ports routers c.args.router c.in-None.ensures.lookup.3)
