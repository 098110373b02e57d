-- Items in an order from two sources: which is next.
use Rattle.std.specs.Prelude.{Bool, false, not, List, [], ◌∷◌, Option, None, Some}

-- the item that waits and those after it; none, where none waits
abbrev pub first_then : {X : Type 0} → Option X → List X → List X
first_then None rest = []
first_then (Some x) rest = x ∷ rest

-- one waits that this item doesn't come before
abbrev pub waits_before : {X : Type 0} → (X → X → Bool) → X → List X → Bool
waits_before comes_before x [] = false
waits_before comes_before x (y ∷ ys) = not (comes_before x y)
