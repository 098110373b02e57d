use Rattle.std.proofs.Common.{rules}
use Rattle.ipx_internet.proofs.places.IndexOfStations.{index_none}
use Rattle.ipx_internet.proofs.stations.Stations.new.Goals as goal

pub invariant_of-result : goal.invariant_of-result
invariant_of-result c = index_none c.new.result.items (search rules)
