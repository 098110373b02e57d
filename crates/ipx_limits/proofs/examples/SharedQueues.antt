-- Three queues, of which the second was given last.
use Rattle.std.proofs.Common.{◌≡◌, refl, arith, ℕ, List, [], ◌∷◌}
use Rattle.ipx_limits.specs.declared.queues.Queues.{Queues}
use Rattle.ipx_limits.specs.Queues.{rank, Taken, GivenBack, speakers}
use Rattle.ipx_limits.proofs.SharedQueues.{first_alone}

abbrev queues : List ℕ → ℕ → Queues
queues users last = record { users = users; last = last }

-- whoever has a queue, of equal ones it is the first behind the one that was given last: the third, then the first, then that again
pub ranks : (rank (queues (1 ∷ 1 ∷ 1 ∷ []) 1) 2 ≡ 513) × (rank (queues (1 ∷ 1 ∷ 1 ∷ []) 1) 0 ≡ 767) × (rank (queues (1 ∷ 1 ∷ 1 ∷ []) 1) 1 ≡ 768)
ranks = (refl, refl, refl)

-- the one that fewer have comes first
pub fewest : rank (queues (0 ∷ 1 ∷ 1 ∷ []) 1) 0 ≡ 255
fewest = refl

pub taken : Taken 2 2 2 (queues (1 ∷ 1 ∷ 0 ∷ []) 1) (queues (1 ∷ 1 ∷ 1 ∷ []) 2)
taken = record {
  not_before = omega arith;
  not_behind = omega arith;
  fewest = first_alone (queues (1 ∷ 1 ∷ 0 ∷ []) 1) 2;
  users = refl;
  given = refl;
}

pub given_back : GivenBack 1 (queues (1 ∷ 2 ∷ 0 ∷ []) 1) (queues (1 ∷ 1 ∷ 0 ∷ []) 1)
given_back = record { users = refl; same = refl }

pub nobody_had_it : GivenBack 2 (queues (1 ∷ 1 ∷ 0 ∷ []) 1) (queues (1 ∷ 1 ∷ 0 ∷ []) 1)
nobody_had_it = record { users = refl; same = refl }

pub three_speak : speakers (queues (7 ∷ 2 ∷ 1 ∷ []) 0) 1 2 ≡ 3
three_speak = refl
