-- Ticks in which nothing else happens are steps of upkeep, and in any ticks each router has as many seconds as there are ticks.
use Rattle.std.proofs.Common.{◌≡◌, refl, ℕ, ◌<◌, List, [], ◌∷◌, length, arith}
use Rattle.std.specs.List.{AllByRecursion}
use Rattle.ipx_internet.specs.BusyTick.{IsBusyTick}
use Rattle.ipx_internet.specs.Internet.{Internet}
use Rattle.ipx_internet.specs.Run.{Step, Run, run_of}
use Rattle.ipx_internet.specs.Ticks.{seconds_of, IsOfTick, AreTicks}
use Rattle.ipx_internet.proofs.lists.EachElement.{all_then, all-append}
use Rattle.ipx_internet.proofs.ticks.TickCanBeHad.{seconds_more}
use Rattle.ipx_laws.specs.Meanwhile.{EachTick}
use Rattle.ipx_laws.specs.Upkeep.{IsOfUpkeep, steps_of}

module _ (net : Internet) (most_routes most_services : ℕ) where
  of_upkeep : (step : Step) → IsOfTick net step → IsOfUpkeep net step
  of_upkeep step is = grind arith

  pub are_of_upkeep : (run : Run) (ticks : List (List Step)) → AreTicks net most_routes most_services run ticks → AllByRecursion (IsOfUpkeep net) (steps_of ticks)
  are_of_upkeep run [] are = tt
  are_of_upkeep run (steps ∷ ticks) are = grind (arith, are_of_upkeep (run_of net most_routes most_services run steps) ticks are.1, all-append, all_then, of_upkeep)

  pub seconds_in : (router : ℕ) → router < length net → (run : Run) (ticks : List (List Step))
      → EachTick net most_routes most_services (IsBusyTick net most_routes most_services) run ticks → seconds_of router (steps_of ticks) ≡ length ticks
  seconds_in router inside run [] are = refl
  seconds_in router inside run (steps ∷ ticks) are = omega (arith, seconds_in router inside (run_of net most_routes most_services run steps) ticks are.1, seconds_more)
