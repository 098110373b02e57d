-- What a list answers that is searched for a key. Only clauses inside the crate speak of it.
use Rattle.std.specs.Prelude.{List, length}
use Rattle.std.specs.List.{filter, list_any}
use Rattle.std.specs.Ordering.{is_lt, is_eq, is_gt}
use Rattle.std.specs.declared.cmp.Ordering.{Ordering}
use Rattle.ipx_table.specs.Answers.{Answers}

-- how many are below, whether one is equal, and how many are above, by that comparison
abbrev pub answers_to : {X : Type 0} → (X → Ordering) → List X → Answers
answers_to compare xs = record {
  below = length (filter (λ x. is_lt (compare x)) xs);
  held = list_any (λ x. is_eq (compare x)) xs;
  above = length (filter (λ x. is_gt (compare x)) xs);
}
