use Rattle.std.proofs.Common.{ℕ, ◌+◌, ◌<◌, ◌≤◌, List, length, subst}
use Rattle.ipx_edge.specs.Places.{hops_place}
use Rattle.ipx_edge.proofs.numbering.services_told.Goals as goal

pub returns-then-eq-clause-room : goal.returns-then-eq-clause-room
returns-then-eq-clause-room c =
    subst (λ (l : List ℕ). (k : ℕ) → k < c.services_in.result → hops_place k + 2 ≤ 30 + length l) c.payload.ensures c.services_in.ensures.room
