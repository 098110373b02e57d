use Rattle.ipx_segment.specs.Stations.{refreshed}
use Rattle.ipx_segment.proofs.Lists.{MapsInPlace}
use Rattle.ipx_segment.proofs.learning.refresh.Given as goal

abbrev pub invariant-loop-station : goal.invariant-loop-station
invariant-loop-station l = MapsInPlace (refreshed l.link l.node) l.initial.stations l.stations l.station-index
