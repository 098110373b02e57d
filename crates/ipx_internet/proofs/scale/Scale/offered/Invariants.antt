use Rattle.std.proofs.Common.{◌≡◌, ℕ, ◌+◌, ◌<◌, ◌^◌, drop}
use Rattle.ipx_internet.specs.Internet.{Internet}
use Rattle.ipx_internet.specs.InternetWeight.{services_weight}
use Rattle.ipx_internet.specs.inside.Scales.{saturated, IsScale}
use Rattle.ipx_internet.proofs.scale.Scale.offered.Given as goal

abbrev pub invariant-loop-k : goal.invariant-loop-k
invariant-loop-k l =
    ((net : Internet) (routes services : ℕ) → IsScale net routes services l.self
    → saturated (l.sum + services_weight net (drop l.k l.entries)) ≡ saturated (services_weight net l.entries))
    × (l.sum < 2 ^ 64)
