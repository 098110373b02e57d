use Rattle.std.proofs.Common.{map}
use Rattle.ipx_router.specs.Facts.{offers}
use Rattle.ipx_router.specs.Outbox.{Fits}
use Rattle.ipx_router.specs.Sends.{rip_broadcast, sap_broadcast}
use Rattle.ipx_router.specs.Told.{told, told_services, dead, dead_service}
use Rattle.ipx_router.proofs.sending.OneAfterAnother.{appends_then, fits_front, fits_then}
use Rattle.ipx_router.proofs.advertising.stopping.send_stop_on.Goals as goal

pub withdraw_routes-requires : goal.withdraw_routes-requires
withdraw_routes-requires g c =
    let routes = rip_broadcast c.args.ports.now c.args.number (map dead (told c.args.ports.now c.args.up.now (offers c.args.routes.now.records) c.args.number)) in
    let services = sap_broadcast c.args.ports.now c.args.number (map dead_service (told_services (offers c.args.services.now.records) c.args.number)) in
    let room : Fits c.args.outbox.now routes = fits_front routes services c.requires.room in
    search room

pub withdraw_services-requires : goal.withdraw_services-requires
withdraw_services-requires g c =
    let routes = rip_broadcast c.args.ports.now c.args.number (map dead (told c.args.ports.now c.args.up.now (offers c.args.routes.now.records) c.args.number)) in
    let services = sap_broadcast c.args.ports.now c.args.number (map dead_service (told_services (offers c.args.services.now.records) c.args.number)) in
    let room : Fits c.withdraw_routes.new.outbox services = fits_then routes services c.requires.room c.withdraw_routes.ensures in
    search room

pub returns : goal.returns
returns g c = appends_then c.withdraw_routes.ensures c.withdraw_services.ensures
