use Rattle.std.proofs.Common.{◌≡◌, ℕ}
use Rattle.ipx_internet.specs.Most.{most_of}
use Rattle.ipx_internet.specs.inside.Scales.{saturated}
use Rattle.ipx_internet.proofs.scale.tree.Given as goal

abbrev pub invariant-loop : goal.invariant-loop
invariant-loop l = (d : ℕ) → l.degree ≡ saturated d → l.whole ≡ saturated (most_of d l.counter)
