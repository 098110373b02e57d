-- What is heard of packets that come from outside, in a step, and in one of the steps of some ticks.
use Rattle.std.specs.Prelude.{◌≡◌, ◌⊎◌, ℕ, List, [], ◌∷◌, Some}
use Rattle.ipx_router.specs.Facts.{heard_after}
use Rattle.ipx_router.specs.Heard.{Heard}
use Rattle.ipx_router.specs.History.{History, Packet}
use Rattle.ipx_internet.specs.Internet.{Internet, Place, ports_of}
use Rattle.ipx_internet.specs.Queue.{history_of}
use Rattle.ipx_internet.specs.Run.{Step, Happens, Settles, Run, stepped}

-- in a step a packet comes from outside to a port, and what is heard of it there is such
abbrev pub IsHeardOutside : Internet → Place → (Heard → Type 0) → List History → Step → Type 0
IsHeardOutside net to Says histories (Happens router (Packet number bytes)) =
    (router ≡ to.router) × (number ≡ to.port)
    × (m : Heard) × (heard_after (ports_of net to.router) (history_of histories to.router) to.port bytes ≡ Some m) × Says m
IsHeardOutside net to Says histories (Happens router event) = ⊥
IsHeardOutside net to Says histories Settles = ⊥

module _ (net : Internet) (most_routes most_services : ℕ) where
  -- something is so of one of some steps, or what comes after them is so
  abbrev pub InSteps : (Run → Step → Type 0) → (Run → Type 0) → Run → List Step → Type 0
  InSteps Is Later run [] = Later run
  InSteps Is Later run (step ∷ steps) = Is run step ⊎ InSteps Is Later (stepped net most_routes most_services run step) steps

  -- of one of the steps of some ticks
  abbrev pub InTicks : (Run → Step → Type 0) → Run → List (List Step) → Type 0
  InTicks Is run [] = ⊥
  InTicks Is run (steps ∷ ticks) = InSteps Is (λ next. InTicks Is next ticks) run steps
