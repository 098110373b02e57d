use Rattle.ipx_laws.specs.Ups.{ups}
use Rattle.ipx_laws.proofs.laws.least_ways.Goals as goal
use Rattle.ipx_laws.proofs.tables.ComputedIsLeast.{least_is, none_beats_least}
use Rattle.ipx_laws.proofs.tables.LeastWays.{ups_within}

pub returns-clause-way : goal.returns-clause-way
returns-clause-way c net histories router network way e = least_is net (ups net histories) (ups_within net histories) network router way e

pub returns-clause-none_better : goal.returns-clause-none_better
returns-clause-none_better c net histories router network way is short =
    none_beats_least net (ups net histories) (ups_within net histories) network router way is short
