use Rattle.std.proofs.Common.{◌≡◌, ◌+◌, ◌<◌, ◌^◌, drop}
use Rattle.std.specs.List.{sum_by}
use Rattle.ipx_internet.specs.InternetWeight.{delivery_weight}
use Rattle.ipx_internet.specs.inside.Scales.{saturated}
use Rattle.ipx_internet.specs.inside.Simulated.{net_among}
use Rattle.ipx_internet.proofs.most_deliveries.weigh.Given as goal

abbrev pub invariant-loop-k : goal.invariant-loop-k
invariant-loop-k g l =
    (saturated (l.sum + sum_by (delivery_weight (net_among l.routers) g.row.R g.row.S) (drop l.k l.batch.deliveries))
    ≡ saturated (sum_by (delivery_weight (net_among l.routers) g.row.R g.row.S) (drop l.from l.batch.deliveries)))
    × (l.sum < 2 ^ 64)
