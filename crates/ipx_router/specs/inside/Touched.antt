-- What offers touch of a table: the keys of those that change it, each once and in order, with the offer that it had before the
-- event and the one that it has now.
use Rattle.std.specs.Prelude.{◌≡◌, Bool, true, false, List, map, filter, Option}
use Rattle.std.specs.List.{AllByRecursion, find, list_any}
use Rattle.std.specs.Ordering.{is_eq}
use Rattle.std.specs.declared.cmp.Ordering.{Ordering}
use Rattle.ipx_table.specs.Stands.{Ascends}
use Rattle.ipx_router.specs.Changes.{Change, differs}
use Rattle.ipx_router.specs.declared.learning.touched.Touched.{Touched}

-- what a key had before and has now
abbrev pub change_of : {O : Type 0} → Touched O → Change O
change_of touched = record { before = touched.before; after = touched.after }

-- offers that compare as equal are one
abbrev pub IsExact : {O : Type 0} → (O → O → Bool) → Type 0
IsExact {O} same = (a b : O) → same a b ≡ true → a ≡ b

module _ {O K : Type 0} (key_of : O → K) (order : K → K → Ordering) where
  -- the offer that a key has
  abbrev pub offer_at : K → List O → Option O
  offer_at key offers = find (λ o. is_eq (order (key_of o) key)) offers

  -- the key of what was touched
  abbrev pub touched_key : Touched O → K
  touched_key touched = key_of touched.offer

  -- the key was touched
  abbrev pub is_touched : K → List (Touched O) → Bool
  is_touched key all = list_any (λ touched. is_eq (order (touched_key touched) key)) all

  -- by key; what is recorded is what the key had before and has now, and no other key has another offer now
  pub record Touches (before now : List O) (all : List (Touched O)) : Type 0 where
    pub by_key : Ascends (λ a b. order (touched_key a) (touched_key b)) all
    pub recorded : AllByRecursion (λ touched. touched.before ≡ offer_at (touched_key touched) before) all
    pub current : AllByRecursion (λ touched. touched.after ≡ offer_at (touched_key touched) now) all
    pub others : (key : K) → is_touched key all ≡ false → offer_at key now ≡ offer_at key before

  -- what changed of all that was touched
  abbrev pub changes_noted : (O → O → Bool) → List (Touched O) → List (Change O)
  changes_noted same all = filter (differs key_of order same) (map change_of all)
