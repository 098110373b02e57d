use Rattle.std.proofs.Common.{◌≡◌, ℕ, ◌+◌, ◌<◌, ◌^◌, drop}
use Rattle.ipx_internet.specs.Internet.{Internet}
use Rattle.ipx_internet.specs.InternetWeight.{routes_weight}
use Rattle.ipx_internet.specs.inside.Scales.{saturated, IsScale}
use Rattle.ipx_internet.proofs.scale.Scale.routes.Given as goal

abbrev pub invariant-loop-k : goal.invariant-loop-k
invariant-loop-k l =
    ((net : Internet) (routes services : ℕ) → IsScale net routes services l.self
    → saturated (l.sum + routes_weight net (drop l.k l.rip.entries)) ≡ saturated (routes_weight net l.rip.entries))
    × (l.sum < 2 ^ 64)
