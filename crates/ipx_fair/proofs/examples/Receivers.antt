-- The receiver of the worked examples: time is in milliseconds here. It reads a packet a millisecond.
use Rattle.std.proofs.Common.{◌≡◌, refl, ℕ, true, false, List, [], ◌∷◌}
use Rattle.ipx_fair.specs.declared.setting.Setting.{Setting}
use Rattle.ipx_fair.specs.Numbers.{can_be}
use Rattle.ipx_fair.specs.Queues.{total, waiting, lowered, beyond}
use Rattle.ipx_fair.specs.States.{State, empty}

abbrev pub setting : Setting
setting = record { one = 2; own = 4; reserve = 6; room = 10 }

abbrev pub state : ℕ → List ℕ → State
state left queues = record { setting = setting; left = left; queues = queues }

-- a player's queue, one of somebody who floods, and an empty one
abbrev pub queues : List ℕ
queues = 1 ∷ 7 ∷ 0 ∷ []

pub all : total queues ≡ 8
all = refl

pub who_wait : waiting queues ≡ 2
who_wait = refl

pub after_two : lowered 2 queues ≡ 0 ∷ 5 ∷ 0 ∷ []
after_two = refl

-- beyond 4 milliseconds of each there are 3
pub more_than_own : beyond 4 queues ≡ 3
more_than_own = refl

pub at_first : empty setting 3 ≡ state 0 (0 ∷ 0 ∷ 0 ∷ [])
at_first = refl

-- ---- settings

pub good : can_be setting 256 ≡ true
good = refl

pub of_zeros : can_be (record { one = 0; own = 0; reserve = 0; room = 0 }) 256 ≡ true
of_zeros = refl

pub one_is_more : can_be (record { one = 5; own = 4; reserve = 6; room = 10 }) 256 ≡ false
one_is_more = refl

pub too_long : can_be (record { one = 2; own = 4; reserve = 6; room = 1099511627777 }) 256 ≡ false
too_long = refl

pub too_many : can_be setting 65537 ≡ false
too_many = refl
