use Rattle.ipx_segment.specs.Stations.{later}
use Rattle.ipx_segment.proofs.Lists.{MapsInPlace}
use Rattle.ipx_segment.proofs.learning.age.Given as goal

abbrev pub invariant-loop-station : goal.invariant-loop-station
invariant-loop-station l = MapsInPlace later l.initial.stations l.stations l.station-index
