-- The queues of a receiver, one for each speaker, by their numbers: how many nanoseconds the receiver needs for what is in each.
use Rattle.std.specs.Prelude.{ℕ, zero, suc, ◌+◌, ◌-◌, List, [], ◌∷◌, map}

-- what is in all of them together
abbrev pub total : List ℕ → ℕ
total [] = 0
total (queue ∷ queues) = queue + total queues

-- a queue waits if it isn't empty
abbrev pub waits : ℕ → ℕ
waits zero = 0
waits (suc _) = 1

-- how many of them wait
abbrev pub waiting : List ℕ → ℕ
waiting [] = 0
waiting (queue ∷ queues) = waits queue + waiting queues

-- each of them served so many nanoseconds, or until it is empty
abbrev pub lowered : ℕ → List ℕ → List ℕ
lowered level queues = map (λ queue. queue - level) queues

-- what is in them beyond so many nanoseconds of each
abbrev pub beyond : ℕ → List ℕ → ℕ
beyond part queues = total (lowered part queues)
