use Rattle.std.proofs.Common.{sym, subst}
use Rattle.ipx_internet.specs.inside.Stations.{Index, AreOf}
use Rattle.ipx_internet.proofs.places.MostOnANetwork.{most_stations}
use Rattle.ipx_internet.proofs.stations.Stations.most.Goals as goal

pub returns-clause-exact : goal.returns-clause-exact
returns-clause-exact c = λ net are.
    most_stations net c.self.inside.list.items (subst (λ (i : Index). AreOf net i.list) (sym c.self.view_is) are) c.self.inside.most c.self.invariant
