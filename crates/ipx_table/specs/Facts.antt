-- What happens to a table: offers come, seconds pass, the offers of a port end, all ends. The oldest fact stands first.
use Rattle.std.specs.Prelude.{ℕ, ◌+◌, Bool, List, [], ◌∷◌}

-- one thing that happens to a table
pub data Fact (O : Type 0) : Type 0 where
  Offered : (offer : O) → Fact O
  Second : Fact O
  PortEnd : (port : ℕ) → Fact O
  End : Fact O

-- a fact with its mark: whether it is an offer that was accepted
abbrev pub Marked : Type 0 → Type 0
Marked O = Fact O × Bool

-- how many seconds pass in the facts
abbrev pub seconds : {O : Type 0} → List (Marked O) → ℕ
seconds [] = 0
seconds ((Offered offer, mark) ∷ later) = seconds later
seconds ((Second, mark) ∷ later) = seconds later + 1
seconds ((PortEnd port, mark) ∷ later) = seconds later
seconds ((End, mark) ∷ later) = seconds later
