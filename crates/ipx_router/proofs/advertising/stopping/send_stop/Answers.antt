use Rattle.std.proofs.Common.{◌<◌, get_or, length}
use Rattle.ipx_router.specs.Facts.{offers}
use Rattle.ipx_router.specs.Outbox.{Fits}
use Rattle.ipx_router.specs.Sends.{stop_on}
use Rattle.ipx_router.proofs.sending.PortByPort.{each_at}
use Rattle.ipx_router.proofs.sending.OneAfterAnother.{next_fits, next_pays, all_paid}
use Rattle.ipx_router.proofs.advertising.stopping.send_stop.Goals as goal

pub send_stop_on-requires : goal.send_stop_on-requires
send_stop_on-requires g c =
    let sends = stop_on c.args.ports.now (record { up = c.args.up.now; routes = offers c.args.routes.now.records; services = offers c.args.services.now.records }) in
    let k = c.loop-number.number-index in
    let room : Fits c.loop-number.outbox (sends (get_or c.args.up.now k 0)) =
    next_fits sends c.args.up.now k 0 c.loop-number-test.true c.loop-number.invariant.pays c.requires.room in
    let within : get_or c.args.up.now k 0 < length c.args.ports.now =
    each_at (λ j. j < length c.args.ports.now) c.args.up.now k 0 c.requires.ports c.loop-number-test.true in
    search (room, within)

pub loop-number-preserved : goal.loop-number-preserved
loop-number-preserved g c = record {
  pays = next_pays (stop_on c.args.ports.now (record { up = c.args.up.now; routes = offers c.args.routes.now.records; services = offers c.args.services.now.records })) c.args.up.now
      c.loop-number.number-index 0 c.loop-number-test.true c.loop-number.invariant.pays c.send_stop_on.ensures;
}

pub returns : goal.returns
returns g c =
    all_paid (stop_on c.args.ports.now (record { up = c.args.up.now; routes = offers c.args.routes.now.records; services = offers c.args.services.now.records })) c.args.up.now
    c.loop-number.number-index c.loop-number-test.false c.loop-number.invariant.pays
