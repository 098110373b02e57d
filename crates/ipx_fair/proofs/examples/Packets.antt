-- Packets that are heard, and those that aren't.
use Rattle.std.proofs.Common.{◌≡◌, refl, true, false, lit<, [], ◌∷◌}
use Rattle.ipx_fair.specs.Hearing.{hears, queues_after, Said}
use Rattle.ipx_fair.proofs.examples.Receivers.{setting, state}

-- somebody alone fills half of the room, since his queue counts in both
pub alone : hears setting 4 4 2 ≡ true
alone = refl

pub alone_too_much : hears setting 5 5 1 ≡ false
alone_too_much = refl

-- one with no more than its own part is heard beyond the room too, while the reserve lasts
pub of_reserve : hears setting 3 15 1 ≡ true
of_reserve = refl

pub reserve_used_up : hears setting 3 16 1 ≡ false
reserve_used_up = refl

pub more_than_own : hears setting 4 12 1 ≡ false
more_than_own = refl

-- an empty queue always has room for one
pub quiet : hears setting 0 1000 2 ≡ true
quiet = refl

pub too_long : hears setting 0 1000 3 ≡ false
too_long = refl

-- a packet that goes out as two frames weighs both
pub in_queue : queues_after (1 ∷ 7 ∷ 0 ∷ []) 2 2 true ≡ 1 ∷ 7 ∷ 2 ∷ []
in_queue = refl

pub not_in_queue : queues_after (1 ∷ 7 ∷ 0 ∷ []) 1 2 false ≡ 1 ∷ 7 ∷ 0 ∷ []
not_in_queue = refl

pub heard : Said 2 2 true (state 0 (1 ∷ 7 ∷ 0 ∷ [])) (state 0 (1 ∷ 7 ∷ 2 ∷ []))
heard = record { there = lit< tt; setting = refl; left = refl; decided = refl; queues = refl }

pub dropped : Said 1 2 false (state 0 (1 ∷ 7 ∷ 0 ∷ [])) (state 0 (1 ∷ 7 ∷ 0 ∷ []))
dropped = record { there = lit< tt; setting = refl; left = refl; decided = refl; queues = refl }
