use Rattle.ipx_cable.proofs.Lists.{MapsInPlace}
use Rattle.ipx_cable.specs.Stations.{aged}
use Rattle.ipx_cable.proofs.bucket.pass.Given as goal

abbrev pub invariant-loop-station : goal.invariant-loop-station
invariant-loop-station l = MapsInPlace aged l.initial.stations l.stations l.station-index
