use Rattle.std.proofs.Common.{sym, ap, ◌∙◌, List}
use Rattle.ipx_router.specs.Port.{Port, port_at}
use Rattle.ipx_internet.proofs.deliveries.PortsAtANumber.{no_ports, ports_there}
use Rattle.ipx_internet.proofs.most_deliveries.network_at.Goals as goal

pub network_of-requires : goal.network_of-requires
network_of-requires g c = first_of (assumption c.well_formed, search c.well_formed)

pub returns-in-Some : goal.returns-in-Some
returns-in-Some g c =
    let read = c.in-Some.ensures.lookup in
    c.network_of.ensures ∙ ap (λ (ps : List Port). (port_at ps c.args.port).network)
    (sym (ports_there c.args.routers.now c.args.router c.in-Some.router.now read.3.0 read.1))

pub returns-in-None : goal.returns-in-None
returns-in-None g c =
    sym (ap (λ (ps : List Port). (port_at ps c.args.port).network) (no_ports c.args.routers.now c.args.router c.in-None.ensures.lookup.3))
