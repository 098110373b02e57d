use Rattle.std.proofs.Common.{drop, arith}
use Rattle.std.specs.List.{sum_by}
use Rattle.ipx_internet.specs.Batches.{delivery_of}
use Rattle.ipx_internet.specs.InternetWeight.{delivery_weight}
use Rattle.ipx_internet.specs.inside.Simulated.{net_among}
use Rattle.ipx_internet.proofs.most_deliveries.weigh.Goals as goal
use Rattle.ipx_internet.proofs.weights.WeighedOneByOne.{sum_next, sum_whole}

pub loop-k-preserved : goal.loop-k-preserved
loop-k-preserved g c =
    let w = delivery_weight (net_among c.args.routers.now) g.row.R g.row.S in
    let deliveries = c.args.batch.now.deliveries in
    let next = sum_next w deliveries c.loop-k.k c.loop-k.sum (sum_by w (drop c.args.from deliveries)) c.loop-k.invariant.0
    (delivery_of c.get.result) c.get.ensures c.weigh_one.result c.weigh_one.ensures in
    let sum = c.saturating_add-sum.ensures in
    (omega (arith, next, sum), omega (arith, sum))

pub returns : goal.returns
returns g c =
    let w = delivery_weight (net_among c.args.routers.now) g.row.R g.row.S in
    let deliveries = c.args.batch.now.deliveries in
    let last = c.loop-k-test.false in
    let size = c.len-k-end.ensures.value in
    let few = c.loop-k.invariant.1 in
    sum_whole w deliveries c.loop-k.k c.loop-k.sum (sum_by w (drop c.args.from deliveries)) c.loop-k.invariant.0 (omega (arith, last, size)) (omega (arith, few))

pub get-requires : goal.get-requires
get-requires g c =
    let test = c.loop-k-test.true in
    let size = c.len-k-end.ensures.value in
    omega (arith, test, size)

pub loop-k-init : goal.loop-k-init
loop-k-init g c = (omega arith, omega arith)
