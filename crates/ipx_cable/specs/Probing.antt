-- What happens to the links of a network, and which of them are shut then.
use Rattle.std.specs.Prelude.{◌≡◌, ◌≢◌, ◌⊎◌, ℕ, ◌+◌, ◌-◌, ◌<◌, ◌≤◌, Bool, true, false, List, [], ◌∷◌, ◌++◌, map, get_or, set, replicate}
use Rattle.ipx_cable.specs.Loops.{shut_now, is_late, left_here, left_there}

-- a probe of one link comes on another, by their numbers; a second passes
pub data Event : Type 0 where
  Probe : (here there sent now : ℕ) → Event
  Second : Event

-- the latest first
abbrev pub History : Type 0
History = List Event

-- what each link has left
abbrev pub left_at : ℕ → List ℕ → ℕ
left_at link lefts = get_or lefts link 0

abbrev pub both : (here there sent now : ℕ) → List ℕ → List ℕ
both here there sent now lefts =
    set (set lefts here (left_here here there sent now (left_at here lefts))) there
    (left_there here there sent now (left_at there (set lefts here (left_here here there sent now (left_at here lefts)))))

abbrev pub after : Event → List ℕ → List ℕ
after (Probe here there sent now) lefts = both here there sent now lefts
after Second lefts = map (λ left. left - 1) lefts

-- so many links, of which all are open at first
abbrev pub lefts : ℕ → History → List ℕ
lefts count [] = replicate count 0
lefts count (event ∷ earlier) = after event (lefts count earlier)

abbrev pub left_after : ℕ → ℕ → History → ℕ
left_after count link history = left_at link (lefts count history)

-- how many seconds passed
abbrev pub seconds : History → ℕ
seconds [] = 0
seconds (Probe here there sent now ∷ earlier) = seconds earlier
seconds (Second ∷ earlier) = seconds earlier + 1

-- ---- what of it concerns a link

-- a probe that isn't too old went between a link and an earlier one
abbrev pub Shuts : ℕ → Event → Type 0
Shuts link (Probe here there sent now) =
    (is_late sent now ≡ false) × (((here ≡ link) × (there < link)) ⊎ ((there ≡ link) × (here < link)))
Shuts link Second = ⊥

-- none did
abbrev pub Unshut : ℕ → History → Type 0
Unshut link [] = Unit {0}
Unshut link (event ∷ earlier) = (Shuts link event → ⊥) × Unshut link earlier

-- ---- one cable

-- a probe of one link came on another in this second or in the five before it, and wasn't too old
pub record CameLately (here there : ℕ) (history : History) : Type 0 where
  pub later : History
  pub sent : ℕ
  pub now : ℕ
  pub earlier : History
  pub event : history ≡ later ++ Probe here there sent now ∷ earlier
  pub in_time : is_late sent now ≡ false
  pub lately : seconds later < shut_now

-- whoever is among some links hears probes of these alone
abbrev pub Alone : (ℕ → Bool) → History → Type 0
Alone is_in [] = Unit {0}
Alone is_in (Probe here there sent now ∷ earlier) = (is_in here ≡ is_in there) × Alone is_in earlier
Alone is_in (Second ∷ earlier) = Alone is_in earlier

-- some links are one cable: probes go from them to them alone, and those of the first come on each other one
pub record IsCable (is_in : ℕ → Bool) (first count : ℕ) (history : History) : Type 0 where
  pub has : is_in first ≡ true
  pub first_of_all : (link : ℕ) → is_in link ≡ true → first ≤ link
  pub alone : Alone is_in history
  pub probed : (link : ℕ) → link < count → is_in link ≡ true → link ≢ first → CameLately link first history
