use Rattle.ipx_laws.specs.Ups.{ups}
use Rattle.ipx_laws.proofs.laws.fifteen_suffice.Goals as goal
use Rattle.ipx_laws.proofs.tables.FifteenHopsSuffice.{of_few_routers, of_equal_costs}
use Rattle.ipx_laws.proofs.tables.LeastWays.{ups_within}

pub returns-clause-few_routers : goal.returns-clause-few_routers
returns-clause-few_routers c net histories network is few_routers = of_few_routers net (ups net histories) (ups_within net histories) is network few_routers

pub returns-clause-equal_costs : goal.returns-clause-equal_costs
returns-clause-equal_costs c net cost histories network is same = of_equal_costs net (ups net histories) (ups_within net histories) is network cost same
