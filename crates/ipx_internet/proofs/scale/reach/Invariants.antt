use Rattle.std.proofs.Common.{◌≡◌}
use Rattle.ipx_internet.specs.Internet.{Internet}
use Rattle.ipx_internet.specs.InternetWeight.{most_hearers, weight_in_reach}
use Rattle.ipx_internet.specs.inside.Scales.{saturated}
use Rattle.ipx_internet.proofs.scale.reach.Given as goal

abbrev pub invariant-loop : goal.invariant-loop
invariant-loop l = (net : Internet) → l.hearers ≡ saturated (most_hearers net) → l.whole ≡ saturated (weight_in_reach net l.counter)
