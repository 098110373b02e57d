-- What is known after a history, and what becomes of a datagram then.
use Rattle.std.specs.Prelude.{ℕ, ◌+◌, Bool, ◌==◌, ◌&&◌, not, nat_lt, if◌then◌else◌, List, [], ◌∷◌, ◌++◌, length, map, set, get_or, Option, None, Some}
use Rattle.std.specs.List.{list_any, position}
use Rattle.ipx_peers.specs.declared.opened.Opened.{Opened}
use Rattle.ipx_peers.specs.declared.present.Present.{Present}
use Rattle.ipx_peers.specs.declared.verdict.Verdict.{Verdict}
use Rattle.ipx_peers.specs.declared.verdict.Verdict.TheVariants.{Dropped, Greet, Repeated, Heard, New, Full, Again}
use Rattle.ipx_peers.specs.Numbers.{most_places, last_number}
use Rattle.ipx_peers.specs.Windows.{is_fresh}
use Rattle.ipx_peers.specs.Events.{Event, Begins, Hears, Sends, Second, History}
use Rattle.ipx_peers.specs.Places.{same, no_session, is_session, Place, nobody, is_of, is_away, first, heard, yielded, later}

pub record State : Type 0 where
  -- one's own session
  pub session : List ℕ
  -- one's last number, or 0
  pub sent : ℕ
  -- in the order in which they were heard first
  pub places : List Place

-- ---- a datagram

-- it counts: one has begun, it has a number and a session, and isn't one's own
abbrev pub counts : State → Opened → Bool
counts s opened =
    is_session s.session && not (opened.number == 0) && is_session opened.session && not (same opened.session s.session)

abbrev pub place_at : ℕ → List Place → Place
place_at index places = get_or places index nobody

-- of a place that is known, by its number; or of none
abbrev pub verdict_of : Opened → List Place → Option ℕ → Verdict
verdict_of opened places (Some index) = if is_fresh opened.number (place_at index places).numbers then Heard index else Repeated
verdict_of opened places None =
    if nat_lt (length places) most_places then New (length places) else if list_any is_away places then Again else Full

abbrev pub verdict : Opened → State → Verdict
verdict opened s =
    if not (counts s opened) then Dropped
    else if not (same opened.echo s.session) then Greet
    else verdict_of opened s.places (position (is_of opened.session) s.places)

-- it changes something only where it is heard
abbrev pub places_after : Opened → List Place → Verdict → List Place
places_after opened places Dropped = places
places_after opened places Greet = places
places_after opened places Repeated = places
places_after opened places (Heard index) = set places index (heard opened (place_at index places))
places_after opened places (New index) = map (yielded opened.address) places ++ first opened ∷ []
places_after opened places Full = places
places_after opened places Again = places

-- ---- a datagram to be sent

-- the next number; 0 where there is none
abbrev pub next_number : State → ℕ
next_number s = if s.sent == last_number then 0 else s.sent + 1

abbrev pub sent_after : State → ℕ
sent_after s = if s.sent == last_number then last_number else s.sent + 1

-- where it goes, and which session it echoes
abbrev pub present_at : ℕ → State → Option Present
present_at index s =
    let place = place_at index s.places in
    if is_away place then None else Some (record { session = place.session; address = place.address })

-- ---- histories

abbrev pub after : Event → State → State
after (Begins session) s = record { session = session; sent = 0; places = [] }
after (Hears opened) s = record { session = s.session; sent = s.sent; places = places_after opened s.places (verdict opened s) }
after Sends s = record { session = s.session; sent = sent_after s; places = s.places }
after Second s = record { session = s.session; sent = s.sent; places = map later s.places }

abbrev pub state : History → State
state [] = record { session = no_session; sent = 0; places = [] }
state (event ∷ earlier) = after event (state earlier)
