-- What happens to things that wait for each other, and how many of them have gone.
use Rattle.std.specs.Prelude.{◌≡◌, ℕ, ◌+◌, ◌-◌, ◌<◌, ◌≤◌, true, if◌then◌else◌, List, [], ◌∷◌}
use Rattle.ipx_cable.specs.declared.pace.Pace.{Pace}
use Rattle.ipx_cable.specs.Paces.{largest, least, paced, goes, gone, rest}

-- some more wait, and all are to go so far apart; it is asked whether the first goes
pub data Event : Type 0 where
  More : (count between now : ℕ) → Event
  Ask : (now : ℕ) → Event

-- the latest first
abbrev pub History : Type 0
History = List Event

pub record State : Type 0 where
  pub pace : Pace
  pub waiting : ℕ

abbrev pub nothing : State
nothing = record { pace = rest; waiting = 0 }

-- how many go by an event
abbrev pub leaving : Event → State → ℕ
leaving (More count between now) state = 0
leaving (Ask now) state = if goes state.waiting now state.pace then 1 else 0

abbrev pub after : Event → State → State
after (More count between now) state =
    record { pace = paced (state.waiting + count) between now state.pace; waiting = state.waiting + count }
after (Ask now) state = record { pace = gone state.waiting now state.pace; waiting = state.waiting - leaving (Ask now) state }

abbrev pub state_after : State → History → State
state_after start [] = start
state_after start (event ∷ earlier) = after event (state_after start earlier)

-- how many have gone
abbrev pub left_since : State → History → ℕ
left_since start [] = 0
left_since start (event ∷ earlier) = left_since start earlier + leaving event (state_after start earlier)

-- the first goes at that moment, if it is asked
abbrev pub goes_at : ℕ → State → Type 0
goes_at now state = goes state.waiting now state.pace ≡ true

-- ---- clocks

abbrev pub time_of : Event → ℕ
time_of (More count between now) = now
time_of (Ask now) = now

-- the clock that is asked never shows 0
abbrev pub IsShown : History → Type 0
IsShown [] = Unit {0}
IsShown (event ∷ earlier) = (0 < time_of event) × IsShown earlier

-- it goes on from a moment, as far as numbers go
abbrev pub latest : ℕ → History → ℕ
latest begin [] = begin
latest begin (event ∷ earlier) = time_of event

abbrev pub GoesOn : ℕ → History → Type 0
GoesOn begin [] = Unit {0}
GoesOn begin (event ∷ earlier) = (latest begin earlier ≤ time_of event) × (time_of event < largest) × GoesOn begin earlier

-- ---- how far apart

-- no more wait than may go so far apart
abbrev pub HasRoom : ℕ → Event → State → Type 0
HasRoom apart (More count between now) state = apart ≤ least (state.waiting + count) between
HasRoom apart (Ask now) state = Unit {0}

abbrev pub HaveRoom : ℕ → State → History → Type 0
HaveRoom apart start [] = Unit {0}
HaveRoom apart start (event ∷ earlier) = HasRoom apart event (state_after start earlier) × HaveRoom apart start earlier

-- some wait all the time
abbrev pub SomeWait : State → History → Type 0
SomeWait start [] = Unit {0}
SomeWait start (event ∷ earlier) = (0 < (state_after start (event ∷ earlier)).waiting) × SomeWait start earlier
