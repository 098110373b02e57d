-- What the laws ask of an internet in which tables become right, and of what waits when they begin.
use Rattle.std.specs.Prelude.{◌≡◌, ℕ, List, []}
use Rattle.std.specs.List.{AllByRecursion}
use Rattle.ipx_wire.specs.declared.network.Network.{Network}
use Rattle.ipx_router.specs.History.{History}
use Rattle.ipx_internet.specs.Internet.{Internet, IsInternet, NodesDiffer}
use Rattle.ipx_internet.specs.Rounds.{IsDelivery}
use Rattle.ipx_internet.specs.Run.{Step, IsStep, AreHistories, Run, Waiting, run_of}
use Rattle.ipx_laws.specs.Least.{AreCheap, HasRoom, FifteenSuffice}
use Rattle.ipx_laws.specs.Ups.{ups}

-- an internet, and what happened to its routers before, where tables become right about a network, whatever is in them: the ports of two
-- routers on one network have different nodes, fifteen hops suffice over the ports that are up, no port costs too much, and every table has room
abbrev pub IsSetting : Internet → ℕ → List History → Network → Type 0
IsSetting net most_routes histories network =
    IsInternet net × NodesDiffer net × FifteenSuffice net (ups net histories) network × AreCheap net × HasRoom net most_routes × AreHistories net histories

-- whatever waits, forged packets too: only bytes for ports that there are
abbrev pub AreDeliveries : Internet → List Waiting → Type 0
AreDeliveries net waiting = AllByRecursion (λ w. IsDelivery net w.delivery) waiting

-- steps after which nothing waits, whatever waited before: no step where nothing did, or those of a tick
abbrev pub ComesToRest : Internet → (most_routes most_services : ℕ) → Run → List Step → Type 0
ComesToRest net most_routes most_services run first =
    AreDeliveries net run.waiting × AllByRecursion (IsStep net) first × ((run_of net most_routes most_services run first).waiting ≡ [])
