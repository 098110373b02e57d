-- The words of the laws.
use Rattle.std.specs.Prelude.{◌≡◌, ℕ, ◌+◌, Bool, true, false, ◌&&◌, if◌then◌else◌, List, [], ◌∷◌, ◌++◌}
use Rattle.std.specs.List.{list_any}
use Rattle.ipx_peers.specs.declared.opened.Opened.{Opened}
use Rattle.ipx_peers.specs.declared.verdict.Verdict.{Verdict}
use Rattle.ipx_peers.specs.declared.verdict.Verdict.TheVariants.{Dropped, Greet, Repeated, Heard, New, Full, Again}
use Rattle.ipx_peers.specs.Numbers.{place_lasts}
use Rattle.ipx_peers.specs.Windows.{newest}
use Rattle.ipx_peers.specs.Events.{Begins, Hears, Sends, Second, History}
use Rattle.ipx_peers.specs.Places.{same, Place}
use Rattle.ipx_peers.specs.States.{verdict, state}

-- ---- what is heard

abbrev pub is_heard : Verdict → Bool
is_heard Dropped = false
is_heard Greet = false
is_heard Repeated = false
is_heard (Heard index) = true
is_heard (New index) = true
is_heard Full = false
is_heard Again = false

-- a datagram that comes after a history is heard
abbrev pub hears : History → Opened → Bool
hears history opened = is_heard (verdict opened (state history))

-- the numbers that were heard of a session since the last beginning, the latest word first
abbrev pub numbers_of : List ℕ → History → List ℕ
numbers_of session [] = []
numbers_of session (Begins own ∷ earlier) = []
numbers_of session (Hears opened ∷ earlier) =
    if same opened.session session && hears earlier opened then opened.number ∷ numbers_of session earlier else numbers_of session earlier
numbers_of session (Sends ∷ earlier) = numbers_of session earlier
numbers_of session (Second ∷ earlier) = numbers_of session earlier

-- ---- beginnings

-- it didn't begin again
abbrev pub GoesOn : History → Type 0
GoesOn [] = Unit {0}
GoesOn (Begins session ∷ earlier) = ⊥
GoesOn (Hears opened ∷ earlier) = GoesOn earlier
GoesOn (Sends ∷ earlier) = GoesOn earlier
GoesOn (Second ∷ earlier) = GoesOn earlier

-- the sessions with which it began
abbrev pub sessions : History → List (List ℕ)
sessions [] = []
sessions (Begins session ∷ earlier) = session ∷ sessions earlier
sessions (Hears opened ∷ earlier) = sessions earlier
sessions (Sends ∷ earlier) = sessions earlier
sessions (Second ∷ earlier) = sessions earlier

-- each was another one than all before
abbrev pub AreNew : History → Type 0
AreNew [] = Unit {0}
AreNew (Begins session ∷ earlier) = (list_any (same session) (sessions earlier) ≡ false) × AreNew earlier
AreNew (Hears opened ∷ earlier) = AreNew earlier
AreNew (Sends ∷ earlier) = AreNew earlier
AreNew (Second ∷ earlier) = AreNew earlier

-- ---- where a place is

-- how many seconds passed
abbrev pub seconds : History → ℕ
seconds [] = 0
seconds (Begins session ∷ earlier) = seconds earlier
seconds (Hears opened ∷ earlier) = seconds earlier
seconds (Sends ∷ earlier) = seconds earlier
seconds (Second ∷ earlier) = seconds earlier + 1

-- since the last beginning a datagram of the place's highest number was heard, and came from where it is
pub record CameFrom (place : Place) (history : History) : Type 0 where
  pub later : History
  pub goes_on : GoesOn later
  pub opened : Opened
  pub earlier : History
  pub event : history ≡ later ++ Hears opened ∷ earlier
  pub heard : hears earlier opened ≡ true
  pub session : opened.session ≡ place.session
  pub address : opened.address ≡ place.address
  pub number : opened.number ≡ newest place.numbers

-- since the last beginning a datagram of the place was heard, whose time isn't over
pub record CameLately (place : Place) (history : History) : Type 0 where
  pub later : History
  pub goes_on : GoesOn later
  pub opened : Opened
  pub earlier : History
  pub event : history ≡ later ++ Hears opened ∷ earlier
  pub heard : hears earlier opened ≡ true
  pub session : opened.session ≡ place.session
  pub lately : seconds later + place.left ≡ place_lasts
