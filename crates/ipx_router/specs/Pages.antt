-- A list cut into packets (IPX Router Specification, entries in a packet).
use Rattle.std.specs.Prelude.{ℕ, ◌+◌, ◌-◌, ◌/◌, nat_lt, if◌then◌else◌, List, [], ◌∷◌, ◌++◌, length}

-- the pages that a list makes behind a page that is begun, n items each, the last one shorter
abbrev pub pages_from : {X : Type 0} → ℕ → List X → List X → List (List X)
pages_from n [] [] = []
pages_from n (p ∷ page) [] = (p ∷ page) ∷ []
pages_from n page (x ∷ xs) =
    if nat_lt (length page) n then pages_from n (page ++ x ∷ []) xs else page ∷ pages_from n (x ∷ []) xs

-- a list cut into pages of n items, the last one shorter; an empty list makes no page
abbrev pub pages : {X : Type 0} → ℕ → List X → List (List X)
pages n xs = pages_from n [] xs

-- the number of pages of n that a list of this length makes
abbrev pub sheets : ℕ → ℕ → ℕ
sheets n items = (items + (n - 1)) / n
