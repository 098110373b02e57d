-- What was heard of nodes on the links of a network, and of whom it was told.
use Rattle.std.specs.Prelude.{◌≡◌, ℕ, ◌+◌, ◌≤◌, Bool, true, ◌&&◌, not, nat_lt, if◌then◌else◌, List, [], ◌∷◌, replicate, Option, Some}
use Rattle.ipx_cable.specs.declared.twins.Twins.{Twins}
use Rattle.ipx_cable.specs.Stations.{same_node}
use Rattle.ipx_cable.specs.Twins.{none_watched, moves_to, twin_known, told_link, twins_after}

-- a node is heard on a link in a second
pub data Heard : Type 0 where
  Hear : (node : List ℕ) (link second : ℕ) → Heard

-- the latest first
abbrev pub History : Type 0
History = List Heard

abbrev pub watched_after : History → Twins
watched_after [] = none_watched
watched_after (Hear node link second ∷ earlier) = twins_after node link second (watched_after earlier)

-- it is told that a node moves to and fro, which was on that link before
abbrev pub IsTold : (node : List ℕ) (link second before : ℕ) → History → Type 0
IsTold node link second before history = told_link node link second (watched_after history) ≡ Some before

-- no machine has it
abbrev pub is_of_zeros : List ℕ → Bool
is_of_zeros node = same_node node (replicate 6 0)

-- a node is heard on one link alone
abbrev pub StaysAt : List ℕ → ℕ → History → Type 0
StaysAt node link [] = Unit {0}
StaysAt node link (Hear other at second ∷ earlier) = (same_node other node ≡ true → at ≡ link) × StaysAt node link earlier

-- seconds don't go back
abbrev pub latest : History → ℕ
latest [] = 0
latest (Hear node link second ∷ earlier) = second

abbrev pub GoesOn : History → Type 0
GoesOn [] = Unit {0}
GoesOn (Hear node link second ∷ earlier) = (latest earlier ≤ second) × GoesOn earlier

-- how often a node was heard on another link than before, as far as it was known, from a second on
abbrev pub is_move : List ℕ → Heard → History → Bool
is_move node (Hear other link second) earlier = same_node other node && moves_to link second (twin_known other link (watched_after earlier))

abbrev pub is_since : (begin : ℕ) → Heard → Bool
is_since begin (Hear node link second) = not (nat_lt second begin)

abbrev pub moves_since : (begin : ℕ) → List ℕ → History → ℕ
moves_since begin node [] = 0
moves_since begin node (heard ∷ earlier) =
    (if is_move node heard earlier && is_since begin heard then 1 else 0) + moves_since begin node earlier
