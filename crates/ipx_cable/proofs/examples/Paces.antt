-- Pings that wait for a narrow line, which wants a second between two.
use Rattle.std.proofs.Common.{◌≡◌, refl, ℕ, ◌*◌, ◌-◌, true, [], ◌∷◌}
use Rattle.ipx_cable.specs.Paces.{least, paced, goes, gone}
use Rattle.ipx_cable.specs.Pacing.{More, Ask, State, nothing, after, state_after, left_since}

abbrev second : ℕ
second = 1000000000

-- three have room a second apart; of eight each goes half a second after the one before
pub room : (least 3 second ≡ second) × (least 8 second ≡ 500000000)
room = (refl, refl)

-- three come after five seconds: the first goes at once, the next a second later
abbrev three : State
three = after (More 3 second (5 * second)) nothing

pub at_once : goes 3 (5 * second) three.pace ≡ true
at_once = refl

pub not_yet : left_since three (Ask (6 * second - 1) ∷ Ask (5 * second) ∷ []) ≡ 1
not_yet = refl

pub a_second_later : left_since three (Ask (6 * second) ∷ Ask (5 * second) ∷ []) ≡ 2
a_second_later = refl

pub then_nothing_waits : (state_after three (Ask (7 * second) ∷ Ask (6 * second) ∷ Ask (5 * second) ∷ [])) ≡ nothing
then_nothing_waits = refl

-- after the first, six more come: all eight go half a second apart, and the next no later than that from now on
pub more : (after (More 6 second (5 * second)) (after (Ask (5 * second)) three)).pace ≡ (record { next = 5500000000; between = 500000000 })
more = refl

-- once they go closer together they do so, even if fewer wait; and one that wasn't asked in time goes at once
pub still_closer : paced 2 second (6 * second) (record { next = 6 * second; between = 500000000 }) ≡ (record { next = 6 * second; between = 500000000 })
still_closer = refl

pub late : gone 2 (9 * second) (record { next = 6 * second; between = second }) ≡ (record { next = 7 * second; between = second })
late = refl
