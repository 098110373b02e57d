-- Which link of the old configuration each link of the new one continues.
use Rattle.std.specs.Prelude.{◌≡◌, ◌⊎◌, ℕ, ◌<◌, ◌≤◌, Bool, false, ◌==◌, List, length, get_or, Option, None, Some}
use Rattle.std.specs.List.{position}
use Rattle.ipx_plan.specs.declared.link.Link.{Link}
use Rattle.ipx_plan.specs.Likeness.{apart, distance_at}

-- new link k continues old link j
abbrev pub Continues : List (Option ℕ) → ℕ → ℕ → Type 0
Continues was j k = get_or was k None ≡ Some j

-- nearer, or as near and no later in its list
abbrev pub ComesFirst : (distance place other_distance other_place : ℕ) → Type 0
ComesFirst distance place other_distance other_place =
    (distance < other_distance) ⊎ ((distance ≡ other_distance) × (place ≤ other_place))

-- What the new links continue. Two links that are alike are a pair, unless one of them has another that comes first: the nearest, and of
-- those that are equally near the first in the file. The two lists allow one answer alone (the law `one_way`).
pub record IsPairing (old new : List Link) (was : List (Option ℕ)) : Type 0 where
  pub count : length was ≡ length new
  pub alike : (j k : ℕ) → Continues was j k → distance_at old new j k < apart
  pub once : (j k l : ℕ) → Continues was j k → Continues was j l → k ≡ l
  pub nearest : (j k : ℕ) → distance_at old new j k < apart
      → ((i : ℕ) × Continues was i k × ComesFirst (distance_at old new i k) i (distance_at old new j k) j)
      ⊎ ((l : ℕ) × Continues was j l × ComesFirst (distance_at old new j l) l (distance_at old new j k) k)

-- a number that is there
abbrev pub is_number : ℕ → Option ℕ → Bool
is_number j None = false
is_number j (Some i) = i == j

-- the new link that continues an old one
abbrev pub becomes : List (Option ℕ) → ℕ → Option ℕ
becomes was j = position (is_number j) was
