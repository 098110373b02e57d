-- A tick in which anything else happens too.
use Rattle.std.specs.Prelude.{◌≡◌, ℕ, ◌<◌, List, [], length}
use Rattle.std.specs.List.{AllByRecursion}
use Rattle.ipx_internet.specs.Internet.{Internet}
use Rattle.ipx_internet.specs.Run.{Step, IsStep, Run, run_of}
use Rattle.ipx_internet.specs.Ticks.{seconds_of}

module _ (net : Internet) (most_routes most_services : ℕ) where
  -- anything happens, packets of hosts too; each router has one second, and in the end nothing waits
  pub record IsBusyTick (run : Run) (steps : List Step) : Type 0 where
    pub happens : AllByRecursion (IsStep net) steps
    pub each : (router : ℕ) → router < length net → seconds_of router steps ≡ 1
    pub quiet : (run_of net most_routes most_services run steps).waiting ≡ []
