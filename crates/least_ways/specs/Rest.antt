-- Rounds of deliveries in memory.
use Rattle.std.specs.Prelude.{ℕ}
use Rattle.ipx_internet.specs.Moment.{Moment, StandsFor, net_at}
use Rattle.ipx_internet.specs.Queue.{Queued}
use Rattle.ipx_internet.specs.Rounds.{rounds}

-- whatever histories and queue an internet stood for, it stands for those after so many rounds
abbrev pub HasRounds : (most_routes most_services count : ℕ) → Moment → Moment → Type 0
HasRounds most_routes most_services count old new =
    (q : Queued) → StandsFor most_routes most_services old q
    → StandsFor most_routes most_services new (rounds (net_at old) most_routes most_services count q)
