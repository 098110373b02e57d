use Rattle.std.proofs.Common.{◌≡◌}
use Rattle.ipx_internet.specs.Moment.{net_at}
use Rattle.ipx_internet.specs.Passed.{HasTicked}
use Rattle.least_ways.proofs.right.pass.Given as goal

abbrev pub invariant-loop : goal.invariant-loop
invariant-loop g l = (net_at l.internet ≡ net_at l.initial.internet) × HasTicked g.row.R g.row.S l.counter l.initial.internet l.internet
