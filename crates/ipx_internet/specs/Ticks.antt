-- Time that passes in an internet: ticks, in each of which every router has one second, in any order, and deliveries happen in
-- between, until nothing waits.
use Rattle.std.specs.Prelude.{◌≡◌, ℕ, ◌<◌, ◌==◌, ◌&&◌, Bool, true, false, List, [], ◌∷◌, ◌++◌, length, map, replicate}
use Rattle.std.specs.List.{AllByRecursion, filter}
use Rattle.ipx_router.specs.History.{Second, is_second}
use Rattle.ipx_router.specs.Port.{numbers}
use Rattle.ipx_internet.specs.Internet.{Internet}
use Rattle.ipx_internet.specs.Run.{Step, Happens, Settles, Run, run_of}

-- the step is a second of that router
abbrev pub is_second_of : ℕ → Step → Bool
is_second_of router (Happens other event) = (other == router) && is_second event
is_second_of router Settles = false

-- how many seconds that router has in the steps
abbrev pub seconds_of : ℕ → List Step → ℕ
seconds_of router steps = length (filter (is_second_of router) steps)

-- the step is a second of a router that there is, or a delivery
abbrev pub IsOfTick : Internet → Step → Type 0
IsOfTick net (Happens router event) = (router < length net) × (is_second event ≡ true)
IsOfTick net Settles = Unit

module _ (net : Internet) (most_routes most_services : ℕ) where
  -- nothing happens but seconds and deliveries, each router has one second, and then nothing waits
  pub record IsTick (run : Run) (steps : List Step) : Type 0 where
    pub passes : AllByRecursion (IsOfTick net) steps
    pub each : (router : ℕ) → router < length net → seconds_of router steps ≡ 1
    pub quiet : (run_of net most_routes most_services run steps).waiting ≡ []

  -- the run after ticks, one after the other
  abbrev pub ticked : Run → List (List Step) → Run
  ticked run [] = run
  ticked run (steps ∷ ticks) = ticked (run_of net most_routes most_services run steps) ticks

  -- each of them is a tick
  abbrev pub AreTicks : Run → List (List Step) → Type 0
  AreTicks run [] = Unit
  AreTicks run (steps ∷ ticks) = IsTick run steps × AreTicks (run_of net most_routes most_services run steps) ticks

-- a tick as a computer may play it: all seconds, in an order of the routers, then a number of deliveries
abbrev pub a_tick_by : List ℕ → ℕ → List Step
a_tick_by order deliveries = map (λ router. Happens router Second) order ++ replicate deliveries Settles

-- by their numbers
abbrev pub a_tick : ℕ → ℕ → List Step
a_tick routers deliveries = a_tick_by (numbers routers) deliveries

-- each router once, in any order
pub record IsOrder (net : Internet) (order : List ℕ) : Type 0 where
  pub there : AllByRecursion (λ router. router < length net) order
  pub once : (router : ℕ) → router < length net → length (filter (λ other. other == router) order) ≡ 1
