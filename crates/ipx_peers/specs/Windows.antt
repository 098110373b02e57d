-- Which numbers of a place are heard, after those that were, the latest word first.
use Rattle.std.specs.Prelude.{ℕ, ◌%◌, Bool, ◌==◌, ◌&&◌, not, nat_le, max, List, [], ◌∷◌}
use Rattle.std.specs.List.{list_any}
use Rattle.ipx_peers.specs.Numbers.{slots_count}

-- a number that was heard shuts out those of its remainder that are no higher
abbrev pub shuts_out : ℕ → ℕ → Bool
shuts_out number heard = (heard % slots_count == number % slots_count) && nat_le number heard

-- a number is heard if none that was shuts it out
abbrev pub is_fresh : ℕ → List ℕ → Bool
is_fresh number numbers = not (list_any (shuts_out number) numbers)

-- the highest number that was heard, or 0
abbrev pub newest : List ℕ → ℕ
newest [] = 0
newest (number ∷ numbers) = max number (newest numbers)
