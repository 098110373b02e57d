-- How fast things go that wait for each other.
use Rattle.std.specs.Prelude.{ℕ, ◌+◌, ◌-◌, ◌/◌, ◌^◌, Bool, ◌==◌, ◌&&◌, not, nat_lt, min, if◌then◌else◌}
use Rattle.ipx_cable.specs.declared.pace.Pace.{Pace}

-- nanoseconds in which all go that wait
abbrev pub most_wait : ℕ
most_wait = 4000000000

-- no number is larger
abbrev pub largest : ℕ
largest = 2 ^ 64 - 1

-- how far apart so many go
abbrev pub least : (waiting between : ℕ) → ℕ
least waiting between = min between (most_wait / waiting)

-- as they went before, or closer together; the next no later than that from now on
abbrev pub closer : (apart now : ℕ) → Pace → Pace
closer apart now pace =
    let between = min apart pace.between in
    record { next = min pace.next (min (now + between) largest); between = between }

-- so many wait: the first may go now, if none waited before
abbrev pub paced : (waiting between now : ℕ) → Pace → Pace
paced waiting between now pace =
    if waiting == 0 then pace
    else if pace.next == 0 then (record { next = now; between = least waiting between })
    else closer (least waiting between) now pace

-- the first of those that wait goes
abbrev pub goes : (waiting now : ℕ) → Pace → Bool
goes waiting now pace = not (waiting == 0) && not (nat_lt now pace.next)

abbrev pub rest : Pace
rest = record { next = 0; between = 0 }

-- the next goes so much later; after the last nothing waits
abbrev pub gone : (waiting now : ℕ) → Pace → Pace
gone waiting now pace =
    if not (goes waiting now pace) then pace
    else if waiting == 1 then rest
    else (record { next = min (pace.next + pace.between) largest; between = pace.between })
