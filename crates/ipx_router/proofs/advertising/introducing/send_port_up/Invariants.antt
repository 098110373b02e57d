use Rattle.std.proofs.Common.{drop}
use Rattle.std.specs.List.{flat_map}
use Rattle.ipx_router.specs.Facts.{offers}
use Rattle.ipx_router.specs.inside.Owed.{Pays}
use Rattle.ipx_router.specs.Sends.{port_up_on}
use Rattle.ipx_router.proofs.advertising.introducing.send_port_up.Given as goal

abbrev pub invariant-loop-number : goal.invariant-loop-number
invariant-loop-number g l = record {
  pays : Pays l.initial.outbox l.outbox (flat_map (port_up_on l.ports (record { up = l.up; routes = offers l.routes.records; services = offers l.services.records }) l.port) l.up) (flat_map (port_up_on l.ports (record { up = l.up; routes = offers l.routes.records; services = offers l.services.records }) l.port) (drop l.number-index l.up));
}
