-- Lists in an order: each item stands in front of the first that comes after it.
use Rattle.std.specs.Prelude.{Bool, if◌then◌else◌, List, [], ◌∷◌}

module _ {X : Type 0} (comes_before : X → X → Bool) where
  -- the item in its place
  abbrev pub put : X → List X → List X
  put x [] = x ∷ []
  put x (y ∷ ys) = if comes_before x y then x ∷ y ∷ ys else y ∷ put x ys

  -- items in their places among those that are placed, one after the other
  abbrev pub put_all : List X → List X → List X
  put_all placed [] = placed
  put_all placed (x ∷ xs) = put_all (put x placed) xs

  -- the items in their order
  abbrev pub sorted : List X → List X
  sorted xs = put_all [] xs
