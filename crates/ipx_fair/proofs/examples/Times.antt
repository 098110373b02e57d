-- Time serves queues.
use Rattle.std.proofs.Common.{refl, inl, inr, lit<, lit≤, [], ◌∷◌}
use Rattle.ipx_fair.specs.Serving.{Served, Passed}
use Rattle.ipx_fair.proofs.examples.Receivers.{state}

-- 6 milliseconds: 3 for each of both that wait
pub alike : Served 6 (5 ∷ 3 ∷ 0 ∷ []) (2 ∷ 0 ∷ 0 ∷ []) 0
alike = record { level = 3; queues = refl; time_used = inr (lit< tt, refl) }

-- what the one doesn't need the other one has
pub others_have_it : Served 6 (5 ∷ 1 ∷ 0 ∷ []) (0 ∷ 0 ∷ 0 ∷ []) 0
others_have_it = record { level = 5; queues = refl; time_used = inl (refl, refl, lit≤ tt) }

-- one millisecond for two that wait serves nobody yet
pub kept : Served 1 (5 ∷ 3 ∷ 0 ∷ []) (5 ∷ 3 ∷ 0 ∷ []) 1
kept = record { level = 0; queues = refl; time_used = inr (lit< tt, refl) }

-- with the next one it serves both
pub with_next : Passed 1 (state 1 (5 ∷ 3 ∷ 0 ∷ [])) (state 0 (4 ∷ 2 ∷ 0 ∷ []))
with_next = record { setting = refl; served = record { level = 1; queues = refl; time_used = inr (lit< tt, refl) } }

-- what nobody needs is lost
pub lost : Passed 100 (state 1 (5 ∷ 3 ∷ 0 ∷ [])) (state 0 (0 ∷ 0 ∷ 0 ∷ []))
lost = record { setting = refl; served = record { level = 5; queues = refl; time_used = inl (refl, refl, lit≤ tt) } }
