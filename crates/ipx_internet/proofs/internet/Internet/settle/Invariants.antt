use Rattle.std.proofs.Common.{◌≡◌, ◌+◌, ◌≤◌, []}
use Rattle.ipx_internet.specs.InternetWeight.{internet_weight}
use Rattle.ipx_internet.specs.Moment.{net_at}
use Rattle.ipx_internet.specs.Settled.{HasSettled}
use Rattle.ipx_internet.proofs.internet.Internet.settle.Given as goal

abbrev pub invariant-loop : goal.invariant-loop
invariant-loop g l =
    (net_at l.self ≡ net_at l.initial.self) × HasSettled g.row.R g.row.S l.counter l.initial.self l.self
    × (l.initial.self.queue ≡ [] → l.self.queue ≡ [])
    × (internet_weight g.row.R g.row.S l.self + l.counter ≤ internet_weight g.row.R g.row.S l.initial.self)
