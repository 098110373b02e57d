use Rattle.std.proofs.Common.{◌≡◌}
use Rattle.ipx_internet.specs.Moment.{net_at}
use Rattle.least_ways.specs.Rest.{HasRounds}
use Rattle.least_ways.proofs.rest.deliver_rounds.Given as goal

abbrev pub invariant-loop : goal.invariant-loop
invariant-loop g l = (net_at l.internet ≡ net_at l.initial.internet) × HasRounds g.row.R g.row.S l.counter l.initial.internet l.internet
