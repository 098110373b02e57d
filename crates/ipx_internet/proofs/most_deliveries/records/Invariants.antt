use Rattle.std.proofs.Common.{◌≡◌, ◌+◌, ◌<◌, ◌^◌, drop}
use Rattle.ipx_internet.specs.InternetWeight.{records_at}
use Rattle.ipx_internet.specs.inside.Scales.{saturated}
use Rattle.ipx_internet.proofs.most_deliveries.records.Given as goal

abbrev pub invariant-loop-router : goal.invariant-loop-router
invariant-loop-router g l =
    (saturated (l.count + records_at (drop l.router-index l.routers)) ≡ saturated (records_at l.routers)) × (l.count < 2 ^ 64)
