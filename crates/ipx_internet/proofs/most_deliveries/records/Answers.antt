use Rattle.std.proofs.Common.{ap, drop, drop_of_length-le, length, ◌+◌, arith}
use Rattle.std.proofs.lemmas.List.Sums.{sum_by-cons}
use Rattle.ipx_router.specs.Stands.{State}
use Rattle.ipx_internet.specs.InternetWeight.{records_at}
use Rattle.ipx_internet.proofs.most_deliveries.records.Goals as goal
use Rattle.ipx_internet.proofs.weights.WeighedOneByOne.{next_left}

pub loop-router-preserved : goal.loop-router-preserved
loop-router-preserved g c =
    let k = c.loop-router.router-index in
    let whole = ap records_at (next_left c.args.routers.now k c.router-item.result c.loop-router-test.true c.router-item.is) in
    let parts = sum_by-cons (λ (s : State). length s.routes + length s.services) c.router-item.result (drop (k + 1) c.args.routers.now) in
    let so_far = c.loop-router.invariant.0 in
    let routes = c.routes.ensures.value in
    let services = c.services.ensures.value in
    let first = c.saturating_add-count.ensures in
    let then = c.saturating_add-count-in-loop-router.ensures in
    (omega (arith, whole, parts, so_far, routes, services, first, then), omega (arith, then))

pub routes-requires : goal.routes-requires
routes-requires g c = first_of (assumption c.well_formed, search c.well_formed)

pub services-requires : goal.services-requires
services-requires g c = first_of (assumption c.well_formed, search c.well_formed)

pub returns : goal.returns
returns g c =
    let routers = c.args.routers.now in
    let k = c.loop-router.router-index in
    let none = ap records_at (drop_of_length-le routers c.loop-router-test.false) in
    let so_far = c.loop-router.invariant.0 in
    let fits = c.loop-router.invariant.1 in
    omega (arith, none, so_far, fits)
