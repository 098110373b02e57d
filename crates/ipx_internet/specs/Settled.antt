-- How far an internet has settled.
use Rattle.std.specs.Prelude.{◌≡◌, ℕ, ◌<◌, List, [], length}
use Rattle.ipx_internet.specs.Moment.{Moment, StandsFor, net_at}
use Rattle.ipx_internet.specs.Queue.{Delivery, Queued, settled}
use Rattle.ipx_internet.specs.declared.internet.Settled.{Settled}
use Rattle.ipx_internet.specs.declared.internet.Settled.TheVariants.{Quiet, Left}

-- that many deliveries were handed out, first in first out, or as many as there were
abbrev pub HasSettled : (most_routes most_services count : ℕ) → Moment → Moment → Type 0
HasSettled most_routes most_services count old new =
    (q : Queued) → StandsFor most_routes most_services old q
    → StandsFor most_routes most_services new (settled (net_at old) most_routes most_services count q)

-- what is told of the deliveries that wait
abbrev pub IsToldOf : List Delivery → Settled → Type 0
IsToldOf queue Quiet = queue ≡ []
IsToldOf queue (Left count) = (count ≡ length queue) × (0 < count)

-- fewer deliveries were handed out than allowed, and the next one waits
pub record StopsShort (most_routes most_services limit : ℕ) (old new : Moment) : Type 0 where
  pub count : ℕ
  pub few : count < limit
  pub settled : HasSettled most_routes most_services count old new
  pub waits : 0 < length new.queue
