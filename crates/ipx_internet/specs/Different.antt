-- Lists whose elements differ.
use Rattle.std.specs.Prelude.{◌≢◌, List, [], ◌∷◌}
use Rattle.std.specs.List.{AllByRecursion}

-- no element is the same as another
abbrev pub AreDifferent : {X : Type 0} → List X → Type 0
AreDifferent [] = Unit
AreDifferent (x ∷ xs) = AllByRecursion (λ y. y ≢ x) xs × AreDifferent xs
