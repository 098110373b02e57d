use Rattle.std.proofs.Common.{arith}
use Rattle.least_ways.proofs.cited.in_any_order.Goals as goal

pub returns-clause-few : goal.returns-clause-few
returns-clause-few c net q order is differ are waits light =
    let few = c.any_order_ends.ensures.few net 256 256 q order is differ are waits in
    omega (arith, few, light)

pub returns-clause-quiet : goal.returns-clause-quiet
returns-clause-quiet c net q order is differ are waits light long goes =
    c.any_order_ends.ensures.quiet net 256 256 q order is differ are waits goes (omega (arith, light, long))
