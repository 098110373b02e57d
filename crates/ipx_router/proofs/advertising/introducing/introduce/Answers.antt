use Rattle.ipx_router.specs.Facts.{offers}
use Rattle.ipx_router.specs.Outbox.{Fits}
use Rattle.ipx_router.specs.Sends.{rip_broadcast, routes_request, sap_broadcast, services_query}
use Rattle.ipx_router.specs.Told.{told, told_services}
use Rattle.ipx_router.proofs.sending.PortByPort.{first_of_four, second_of_four, third_of_four, fourth_of_four}
use Rattle.ipx_router.proofs.sending.OneAfterAnother.{appends_then}
use Rattle.ipx_router.proofs.advertising.introducing.introduce.Goals as goal

pub broadcast_routes-requires : goal.broadcast_routes-requires
broadcast_routes-requires g c =
    let routes = rip_broadcast c.args.ports.now c.args.number (told c.args.ports.now c.args.up.now (offers c.args.routes.now.records) c.args.number) in
    let request = routes_request c.args.ports.now c.args.number in
    let services = sap_broadcast c.args.ports.now c.args.number (told_services (offers c.args.services.now.records) c.args.number) in
    let query = services_query c.args.ports.now c.args.number in
    let room : Fits c.args.outbox.now routes = first_of_four routes request services query c.requires.room in
    search room

pub request_routes-requires-clause-room : goal.request_routes-requires-clause-room
request_routes-requires-clause-room g c =
    let routes = rip_broadcast c.args.ports.now c.args.number (told c.args.ports.now c.args.up.now (offers c.args.routes.now.records) c.args.number) in
    let request = routes_request c.args.ports.now c.args.number in
    let services = sap_broadcast c.args.ports.now c.args.number (told_services (offers c.args.services.now.records) c.args.number) in
    let query = services_query c.args.ports.now c.args.number in
    second_of_four routes request services query c.requires.room c.broadcast_routes.ensures

pub broadcast_services-requires : goal.broadcast_services-requires
broadcast_services-requires g c =
    let routes = rip_broadcast c.args.ports.now c.args.number (told c.args.ports.now c.args.up.now (offers c.args.routes.now.records) c.args.number) in
    let request = routes_request c.args.ports.now c.args.number in
    let services = sap_broadcast c.args.ports.now c.args.number (told_services (offers c.args.services.now.records) c.args.number) in
    let query = services_query c.args.ports.now c.args.number in
    let room : Fits c.request_routes.new.outbox services =
    third_of_four routes request services query c.requires.room c.broadcast_routes.ensures c.request_routes.ensures in
    search room

pub query_services-requires-clause-room : goal.query_services-requires-clause-room
query_services-requires-clause-room g c =
    let routes = rip_broadcast c.args.ports.now c.args.number (told c.args.ports.now c.args.up.now (offers c.args.routes.now.records) c.args.number) in
    let request = routes_request c.args.ports.now c.args.number in
    let services = sap_broadcast c.args.ports.now c.args.number (told_services (offers c.args.services.now.records) c.args.number) in
    let query = services_query c.args.ports.now c.args.number in
    fourth_of_four routes request services query c.requires.room c.broadcast_routes.ensures c.request_routes.ensures c.broadcast_services.ensures

pub returns : goal.returns
returns g c =
    appends_then (appends_then (appends_then c.broadcast_routes.ensures c.request_routes.ensures) c.broadcast_services.ensures) c.query_services.ensures
