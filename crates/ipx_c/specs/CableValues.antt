-- What a probe does, as C knows it by numbers.
use Rattle.std.specs.Prelude.{ℕ}
use Rattle.ipx_cable.specs.declared.loops.Probed.{Probed}
use Rattle.ipx_cable.specs.declared.loops.Probed.TheVariants.{Late, Nothing, Here, There}

abbrev pub probed_number : Probed → ℕ
probed_number Nothing = 0
probed_number Here = 1
probed_number There = 2
probed_number Late = 3
