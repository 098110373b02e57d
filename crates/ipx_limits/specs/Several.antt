-- One of several receivers that all have to hear a packet: it goes on if all of them hear it, and they count what goes on.
use Rattle.std.specs.Prelude.{◌≡◌, ℕ, ◌<◌, Bool, true, false, List, [], ◌∷◌, length}
use Rattle.ipx_fair.specs.States.{State}
use Rattle.ipx_fair.specs.Serving.{Passed}
use Rattle.ipx_fair.specs.Hearing.{hears_from, Said}
use Rattle.ipx_fair.specs.Events.{Event as One, Time, Says}

-- a receiver counts a packet that goes on, and no other
abbrev pub Counted : Bool → ℕ → ℕ → State → State → Type 0
Counted true speaker weight old new = Said speaker weight true old new
Counted false speaker weight old new = new ≡ old

-- a speaker says a packet of that weight: this receiver hears it or doesn't, and it goes on or doesn't
pub record Asked (speaker weight : ℕ) (hears goes : Bool) (old new : State) : Type 0 where
  pub there : speaker < length old.queues
  pub decided : hears ≡ hears_from old speaker weight
  pub counted : Counted goes speaker weight old new

-- ---- one after the other

pub data Event : Type 0 where
  -- so many nanoseconds pass
  Passing : ℕ → Event
  -- a speaker says a packet of that weight
  Asks : (speaker weight : ℕ) (hears goes : Bool) → Event

abbrev pub Step : Event → State → State → Type 0
Step (Passing nanoseconds) old new = Passed nanoseconds old new
Step (Asks speaker weight hears goes) old new = Asked speaker weight hears goes old new

-- the events lead from one state to the other, and of each state on the way, of both ends too, something holds
abbrev pub Runs : (State → Type 0) → State → List Event → State → Type 0
Runs Holds old [] new = Holds old × (new ≡ old)
Runs Holds old (event ∷ events) new = Holds old × ((next : State) × Step event old next × Runs Holds next events new)

-- what happens to the receiver: a packet that it hears and another one doesn't is nothing that happens to it
abbrev pub of_it : List Event → List One
of_it [] = []
of_it (Passing nanoseconds ∷ events) = Time nanoseconds ∷ of_it events
of_it (Asks speaker weight false goes ∷ events) = Says speaker weight false ∷ of_it events
of_it (Asks speaker weight true true ∷ events) = Says speaker weight true ∷ of_it events
of_it (Asks speaker weight true false ∷ events) = of_it events

-- what is said to it, whether that goes on or not
abbrev pub said : List Event → List One
said [] = []
said (Passing nanoseconds ∷ events) = Time nanoseconds ∷ said events
said (Asks speaker weight hears goes ∷ events) = Says speaker weight hears ∷ said events
