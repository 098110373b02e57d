use Rattle.std.proofs.Common.{◌≡◌}
use Rattle.ipx_internet.specs.Moment.{net_at}
use Rattle.ipx_internet.specs.Passed.{HasPassed}
use Rattle.ipx_internet.proofs.internet.Internet.second.Given as goal
use Rattle.ipx_internet.proofs.ticks.SecondIsATick.{seconds}

abbrev pub invariant-loop-number : goal.invariant-loop-number
invariant-loop-number g l = (net_at l.self ≡ net_at l.initial.self) × HasPassed g.row.R g.row.S (seconds l.number) l.initial.self l.self
