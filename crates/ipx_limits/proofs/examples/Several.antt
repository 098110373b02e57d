-- One of two receivers that both have to hear a packet: it has room for a packet of 2, and not for one of 5 of whom 4 wait already.
use Rattle.std.proofs.Common.{◌≡◌, refl, ℕ, true, false, lit<, List, [], ◌∷◌}
use Rattle.ipx_fair.specs.declared.setting.Setting.{Setting}
use Rattle.ipx_fair.specs.States.{State}
use Rattle.ipx_fair.specs.Events.{Time, Says}
use Rattle.ipx_limits.specs.Several.{Asked, Passing, Asks, of_it, said}

abbrev setting : Setting
setting = record { one = 2; own = 4; reserve = 6; room = 10 }

abbrev state : List ℕ → State
state queues = record { setting = setting; left = 0; queues = queues }

-- both hear it: this one counts it
pub goes_on : Asked 0 2 true true (state (0 ∷ 7 ∷ [])) (state (2 ∷ 7 ∷ []))
goes_on = record { there = lit< tt; decided = refl; counted = record { there = lit< tt; setting = refl; left = refl; decided = refl; queues = refl } }

-- this one hears it, and the other one doesn't: this one doesn't count it either
pub refused_elsewhere : Asked 0 2 true false (state (0 ∷ 7 ∷ [])) (state (0 ∷ 7 ∷ []))
refused_elsewhere = record { there = lit< tt; decided = refl; counted = refl }

pub refused_here : Asked 1 5 false false (state (9 ∷ 4 ∷ [])) (state (9 ∷ 4 ∷ []))
refused_here = record { there = lit< tt; decided = refl; counted = refl }

-- what the other one refuses is nothing to this one, although it was said to it
pub to_it : of_it (Passing 5 ∷ Asks 0 2 true false ∷ Asks 1 5 false false ∷ Asks 0 2 true true ∷ []) ≡ Time 5 ∷ Says 1 5 false ∷ Says 0 2 true ∷ []
to_it = refl

pub was_said : said (Passing 5 ∷ Asks 0 2 true false ∷ Asks 1 5 false false ∷ []) ≡ Time 5 ∷ Says 0 2 true ∷ Says 1 5 false ∷ []
was_said = refl
