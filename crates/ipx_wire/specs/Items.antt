-- Lists of items of one size that stand one behind another.
use Rattle.std.specs.Prelude.{ℕ, zero, suc, List, [], ◌∷◌, drop}

-- the first n items of bytes, each of that many bytes, and each read from where it begins
unfoldable pub items : {E : Type 0} → (List ℕ → E) → ℕ → ℕ → List ℕ → List E
items read size zero bytes = []
items read size (suc n) bytes = read bytes ∷ items read size n (drop size bytes)
