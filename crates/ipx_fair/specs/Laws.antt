-- The words of the laws.
use Rattle.std.specs.Prelude.{◌≡◌, ℕ, ◌+◌, ◌-◌, ◌*◌, ◌<◌, ◌≤◌, true, ◌&&◌, ◌==◌, if◌then◌else◌, List, [], ◌∷◌}
use Rattle.ipx_fair.specs.Queues.{waiting}
use Rattle.ipx_fair.specs.States.{State}
use Rattle.ipx_fair.specs.Hearing.{queue_of}
use Rattle.ipx_fair.specs.Events.{Event, Time, Says}

-- ---- of one state

abbrev pub Anything : State → Type 0
Anything s = Unit {0}

-- at most so many queues wait
abbrev pub AtMost : ℕ → State → Type 0
AtMost n s = waiting s.queues ≤ n

-- some queue waits
abbrev pub SomeWait : State → Type 0
SomeWait s = 0 < waiting s.queues

-- at most so many queues wait, and this speaker's is one of them
abbrev pub HasMore : ℕ → ℕ → State → Type 0
HasMore n speaker s = (waiting s.queues ≤ n) × (0 < queue_of s.queues speaker)

-- ---- of events: nanoseconds that passed, what was given to all, and what to one speaker

abbrev pub elapsed : List Event → ℕ
elapsed [] = 0
elapsed (Time nanoseconds ∷ events) = nanoseconds + elapsed events
elapsed (Says speaker weight heard ∷ events) = elapsed events

abbrev pub given : List Event → ℕ
given [] = 0
given (Time nanoseconds ∷ events) = given events
given (Says speaker weight heard ∷ events) = (if heard then weight else 0) + given events

abbrev pub given_to : ℕ → List Event → ℕ
given_to speaker [] = 0
given_to speaker (Time nanoseconds ∷ events) = given_to speaker events
given_to speaker (Says other weight heard ∷ events) = (if (other == speaker) && heard then weight else 0) + given_to speaker events

-- ---- a speaker within his part

-- a speaker says no more than one part in n of the time, and at once no more than `most`: what he says fills a bucket, n times its weight
-- each, time empties it, and it never has more than n times `most`
abbrev pub KeepsTo : ℕ → ℕ → ℕ → ℕ → List Event → Type 0
KeepsTo n most speaker bucket [] = Unit {0}
KeepsTo n most speaker bucket (Time nanoseconds ∷ events) = KeepsTo n most speaker (bucket - nanoseconds) events
KeepsTo n most speaker bucket (Says other weight heard ∷ events) =
    (other ≡ speaker → bucket + n * weight ≤ n * most)
    × KeepsTo n most speaker (if other == speaker then bucket + n * weight else bucket) events

-- each packet of the speaker is heard
abbrev pub LosesNothing : ℕ → List Event → Type 0
LosesNothing speaker [] = Unit {0}
LosesNothing speaker (Time nanoseconds ∷ events) = LosesNothing speaker events
LosesNothing speaker (Says other weight heard ∷ events) = (other ≡ speaker → heard ≡ true) × LosesNothing speaker events
