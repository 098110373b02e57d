-- What C hears of a datagram that came from a place that shares a network.
use Rattle.std.specs.Prelude.{ℕ, List, Option, None, Some}
use Rattle.ipx_peers.specs.declared.present.Present.{Present}
use Rattle.ipx_peers.specs.declared.verdict.Verdict.{Verdict}
use Rattle.ipx_peers.specs.declared.verdict.Verdict.TheVariants.{Dropped, Greet, Repeated, Heard, New, Full, Again}

-- the number of a verdict, as the header has it
abbrev pub verdict_number : Verdict → ℕ
verdict_number Dropped = 0
verdict_number Greet = 1
verdict_number Repeated = 2
verdict_number (Heard place) = 3
verdict_number (New place) = 4
verdict_number Full = 5
verdict_number Again = 6

-- the number of the place that was heard; or what C lent stays as it was
abbrev pub place_heard : Verdict → ℕ → ℕ
place_heard Dropped before = before
place_heard Greet before = before
place_heard Repeated before = before
place_heard (Heard place) before = place
place_heard (New place) before = place
place_heard Full before = before
place_heard Again before = before

-- the session and the address of a place that is present; or both stay as they were
abbrev pub session_or : Option Present → List ℕ → List ℕ
session_or None before = before
session_or (Some present) before = present.session

abbrev pub address_or : Option Present → List ℕ → List ℕ
address_or None before = before
address_or (Some present) before = present.address
