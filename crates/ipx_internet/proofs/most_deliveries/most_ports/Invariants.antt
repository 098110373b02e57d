use Rattle.std.proofs.Common.{◌≡◌, max, drop}
use Rattle.ipx_internet.specs.Most.{most_ports}
use Rattle.ipx_internet.specs.inside.Simulated.{net_among}
use Rattle.ipx_internet.proofs.most_deliveries.most_ports.Given as goal

abbrev pub invariant-loop-router : goal.invariant-loop-router
invariant-loop-router g l = max l.most (most_ports (net_among (drop l.router-index l.routers))) ≡ most_ports (net_among l.routers)
