-- What happens to a receiver, the earliest first.
use Rattle.std.specs.Prelude.{◌≡◌, ℕ, Bool, List, [], ◌∷◌}
use Rattle.ipx_fair.specs.States.{State}
use Rattle.ipx_fair.specs.Serving.{Passed}
use Rattle.ipx_fair.specs.Hearing.{Said}

pub data Event : Type 0 where
  -- so many nanoseconds pass
  Time : ℕ → Event
  -- a speaker says a packet of that weight, and it is heard or isn't
  Says : (speaker weight : ℕ) (heard : Bool) → Event

abbrev pub Step : Event → State → State → Type 0
Step (Time nanoseconds) old new = Passed nanoseconds old new
Step (Says speaker weight heard) old new = Said speaker weight heard old new

-- the events lead from one state to the other, and of each state on the way, of both ends too, something holds
abbrev pub Runs : (State → Type 0) → State → List Event → State → Type 0
Runs Holds old [] new = Holds old × (new ≡ old)
Runs Holds old (event ∷ events) new = Holds old × ((next : State) × Step event old next × Runs Holds next events new)
