use Rattle.std.proofs.Common.{sym, subst, List}
use Rattle.ipx_router.specs.Happened.{happened}
use Rattle.ipx_router.specs.History.{IsOnPort}
use Rattle.ipx_router.specs.Port.{Port}
use Rattle.ipx_internet.proofs.deliveries.PortsAtANumber.{ports_there}
use Rattle.ipx_internet.proofs.internet.is_there.Goals as goal

pub is_on_port-requires : goal.is_on_port-requires
is_on_port-requires g c = first_of (assumption c.well_formed, search c.well_formed)

pub returns-in-Some : goal.returns-in-Some
returns-in-Some g c =
    let read = c.in-Some.ensures.lookup in
    let ports = ports_there c.args.routers.now c.args.number c.in-Some.router.now read.3.0 read.1 in
    let event = happened c.args.event.now in (
      (λ yes. (read.3.0, subst (λ (ps : List Port). IsOnPort ps event) (sym ports) (c.is_on_port.ensures.0 yes))),
      (λ there. c.is_on_port.ensures.1 (subst (λ (ps : List Port). IsOnPort ps event) ports there.1)),
    )
