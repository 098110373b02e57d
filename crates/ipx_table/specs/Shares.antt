-- Shares: of how many ports a table takes them, and which ports share a table.
use Rattle.std.specs.Prelude.{◌≡◌, ℕ, ◌≤◌, ◌==◌, true, List}
use Rattle.std.specs.List.{AllByRecursion, list_any, sum_by}
use Rattle.ipx_table.specs.Facts.{Fact, Offered, Second, PortEnd, End}
use Rattle.ipx_table.specs.Reading.{Rules}

-- how many ports may be given a share
abbrev pub most_shares : ℕ
most_shares = 32

-- the fact is an offer that came by one of those ports, or it is no offer
abbrev pub IsByOneOf : {O : Type 0} → (O → ℕ) → List ℕ → Fact O → Type 0
IsByOneOf port_by ports (Offered offer) = list_any (λ port. port == port_by offer) ports ≡ true
IsByOneOf port_by ports Second = Unit
IsByOneOf port_by ports (PortEnd port) = Unit
IsByOneOf port_by ports End = Unit

-- those ports share the table: all offers of the facts came by them, and their shares sum to at most the capacity
pub record IsSharedBy {O : Type 0} (rules : Rules O) (ports : List ℕ) (facts : List (Fact O)) : Type 0 where
  pub came : AllByRecursion (IsByOneOf rules.port ports) facts
  pub fit : sum_by rules.share ports ≤ rules.capacity
