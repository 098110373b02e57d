use Rattle.std.proofs.Common.{◌≡◌, ◌∙◌, ◌<◌, sym, subst, length, Some}
use Rattle.ipx_router.specs.Facts.{offers}
use Rattle.ipx_router.specs.Outgoing.{Way, way_to}
use Rattle.ipx_router.proofs.port_values.PortOfEachNumber.{one_up}
use Rattle.ipx_router.proofs.relays.ListedIsRelated.{way_up}
use Rattle.ipx_router.proofs.judging.checks.way_of.Goals as goal

pub port_of-requires : goal.port_of-requires
port_of-requires g c =
    let ports = c.args.ports.now in
    let routes = offers c.args.routes.now.records in
    let found : way_to ports c.args.up.now routes c.args.header.now.destination ≡ Some c.in-Some.way = sym c.in_ok-way.ensures.way.0 ∙ c.in-Some.is in
    let there : c.in-Some.way.port < length ports =
    one_up (λ j. j < length ports) c.args.up.now c.in-Some.way.port c.requires.ups (way_up c.args.up.now routes c.requires.by_ups ports c.args.header.now.destination c.in-Some.way found) in
    subst (λ (w : Way). w.port < length ports) (sym c.way.view_is) there
