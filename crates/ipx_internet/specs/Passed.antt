-- What an internet in memory stands for after steps, and after ticks.
use Rattle.std.specs.Prelude.{◌≡◌, ℕ, ◌<◌, List, length, take}
use Rattle.ipx_router.specs.History.{History}
use Rattle.ipx_internet.specs.Moment.{Moment, StandsFor, net_at}
use Rattle.ipx_internet.specs.Run.{Step, AreHistories, Run, forgotten, run_of}
use Rattle.ipx_internet.specs.Ticks.{AreTicks, ticked}

-- histories of bytes on its ports that it stands for, with what waits in it
pub record HasHistories (most_routes most_services : ℕ) (m : Moment) : Type 0 where
  pub histories : List History
  pub are : AreHistories (net_at m) histories
  pub stands : StandsFor most_routes most_services m (record { histories = histories; queue = m.queue })

-- whatever run it stood for, it stands for that run after those steps
abbrev pub HasPassed : (most_routes most_services : ℕ) → List Step → Moment → Moment → Type 0
HasPassed most_routes most_services steps old new =
    (run : Run) → StandsFor most_routes most_services old (forgotten run)
    → StandsFor most_routes most_services new (forgotten (run_of (net_at old) most_routes most_services run steps))

-- the first of those steps, and not all of them
pub record PassesShort (most_routes most_services : ℕ) (steps : List Step) (old new : Moment) : Type 0 where
  pub count : ℕ
  pub few : count < length steps
  pub passed : HasPassed most_routes most_services (take count steps) old new

-- so many ticks, one after the other, and an internet that stands for the run after them
pub record AfterTicks (most_routes most_services count : ℕ) (old new : Moment) (run : Run) : Type 0 where
  pub ticks : List (List Step)
  pub many : length ticks ≡ count
  pub are : AreTicks (net_at old) most_routes most_services run ticks
  pub stands : StandsFor most_routes most_services new (forgotten (ticked (net_at old) most_routes most_services run ticks))

-- whatever run it stood for, it stands for that run after so many ticks
abbrev pub HasTicked : (most_routes most_services count : ℕ) → Moment → Moment → Type 0
HasTicked most_routes most_services count old new =
    (run : Run) → StandsFor most_routes most_services old (forgotten run) → AfterTicks most_routes most_services count old new run
