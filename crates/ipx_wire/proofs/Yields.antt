use Rattle.std.proofs.Common.{◌≡◌, List, ◌∷◌, arith, Some}
use Rattle.std.specs.Iterator.{MakesProgress, item_count}

-- an iterator that gave the first of its items is nearer to its end
pub goes_first : {X : Type 0} (can : List X → Type 0) → ((l : List X) → can l) → (before after : List X) (x : X) → before ≡ x ∷ after
    → MakesProgress can (item_count (λ rest. rest)) before (Some x) after
goes_first can always before after x e = grind arith
