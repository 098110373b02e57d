-- What becomes of many who are asked, and asked again until they answer.
use Rattle.std.specs.Prelude.{◌≡◌, ◌⊎◌, ℕ, ◌<◌, ◌≤◌, suc, Bool, if◌then◌else◌, List, [], ◌∷◌, get_or, set, replicate}
use Rattle.ipx_cable.specs.declared.asked.Asked.{Asked}
use Rattle.ipx_cable.specs.declared.asked.Asks.{Asks}
use Rattle.ipx_cable.specs.Asking.{moment, no_later, is_due, next_after_look, are_due}

-- one of them is asked, with a number that nobody else can tell; one answers; and it is looked who is to be asked again, each with a number
pub data Event : Type 0 where
  Ask : (who now number : ℕ) → Event
  Answer : (who : ℕ) → Event
  Look : (now : ℕ) (numbers : ℕ → ℕ) → Event

-- the latest first
abbrev pub History : Type 0
History = List Event

pub record State : Type 0 where
  pub all : List Asked
  pub next : ℕ

abbrev pub rests : Asked
rests = record { again = 0 }

abbrev pub next_of : ℕ → Asks
next_of next = record { next = next }

-- ---- a look at all, the first of which has a number in their order

-- one of them: he is asked again if he is due
abbrev pub one_looked : (now number : ℕ) → Asked → Asked
one_looked now number asked = if is_due now asked then (record { again = moment now number }) else asked

abbrev pub one_next : (now number : ℕ) → Asked → ℕ → ℕ
one_next now number asked next =
    if is_due now asked then no_later (moment now number) next else next_after_look now asked (next_of next)

abbrev pub all_looked : (now : ℕ) (numbers : ℕ → ℕ) (index : ℕ) → List Asked → List Asked
all_looked now numbers index [] = []
all_looked now numbers index (asked ∷ others) = one_looked now (numbers index) asked ∷ all_looked now numbers (suc index) others

abbrev pub next_looked : (now : ℕ) (numbers : ℕ → ℕ) (index : ℕ) → List Asked → ℕ → ℕ
next_looked now numbers index [] next = next
next_looked now numbers index (asked ∷ others) next = next_looked now numbers (suc index) others (one_next now (numbers index) asked next)

-- ---- what happens

abbrev pub after : Event → State → State
after (Ask who now number) state =
    record { all = set state.all who (record { again = moment now number }); next = no_later (moment now number) state.next }
after (Answer who) state = record { all = set state.all who rests; next = state.next }
after (Look now numbers) state =
    if are_due now (next_of state.next)
    then (record { all = all_looked now numbers 0 state.all; next = next_looked now numbers 0 state.all 0 })
    else state

-- so many, of whom none has been asked
abbrev pub state_after : (count : ℕ) → History → State
state_after count [] = record { all = replicate count rests; next = 0 }
state_after count (event ∷ earlier) = after event (state_after count earlier)

abbrev pub asked_at : (who : ℕ) → State → Asked
asked_at who state = get_or state.all who rests
