-- An internet without routers.
use Rattle.std.proofs.Common.{◌≡◌, ℕ, List, [], arith}
use Rattle.ipx_internet.specs.Queue.{Delivery}
use Rattle.ipx_internet.specs.inside.Simulated.{IsSimulated}
use Rattle.ipx_internet.specs.declared.stations.Station.{Station}

pub begins : (most_routes most_services : ℕ) (list : List Station) (front back : List Delivery) → list ≡ [] → front ≡ [] → back ≡ []
    → IsSimulated most_routes most_services [] list front 0 back
begins most_routes most_services list front back none no_front no_back = grind arith
