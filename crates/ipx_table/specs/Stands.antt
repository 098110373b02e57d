-- A table stands for facts: its records are the alive offers with their ages, and no others.
use Rattle.std.specs.Prelude.{◌≡◌, ℕ, ◌+◌, ◌<◌, ◌≤◌, ◌==◌, Bool, true, not, if◌then◌else◌, List, [], ◌∷◌, length, map, Option}
use Rattle.std.specs.List.{filter, find, AllByRecursion}
use Rattle.std.specs.Ordering.{is_eq, is_lt}
use Rattle.std.specs.declared.cmp.Ordering.{Ordering}
use Rattle.ipx_table.specs.Reading.{Rules, same_key}
use Rattle.ipx_table.specs.Facts.{Fact}
use Rattle.ipx_table.specs.Alive.{alive, lifetime}
use Rattle.ipx_table.specs.Accepted.{marked}
use Rattle.ipx_table.specs.declared.held.Held.{Held}

module _ {O : Type 0} (by_key : O → O → Ordering) where
  -- one record more, behind those with a smaller key
  abbrev pub put : Held O → List (Held O) → List (Held O)
  put h [] = h ∷ []
  put h (x ∷ rest) = if is_lt (by_key x.offer h.offer) then x ∷ put h rest else h ∷ x ∷ rest

  -- the records in the order of their keys
  abbrev pub in_order : List (Held O) → List (Held O)
  in_order [] = []
  in_order (h ∷ rest) = put h (in_order rest)

  -- no two records are of one key
  abbrev pub IsDistinct : List (Held O) → Type 0
  IsDistinct held = (offer : O) → length (filter (λ h. same_key by_key h.offer offer) held) ≤ 1

-- the alive offers with their ages, in the order of their keys
abbrev pub held : {O : Type 0} → Rules O → List (Fact O) → List (Held O)
held rules facts = in_order rules.by_key (alive rules (marked rules facts))

-- the records are those, and no others
abbrev pub Stands : {O : Type 0} → Rules O → List (Held O) → List (Fact O) → Type 0
Stands rules records facts = records ≡ held rules facts

-- the record of a key, if there is one
abbrev pub record_of : {O K : Type 0} → (O → K) → (K → K → Ordering) → K → List (Held O) → Option (Held O)
record_of key_of order key held = find (λ h. is_eq (order (key_of h.offer) key)) held

-- a record a second later
abbrev pub older : {O : Type 0} → Held O → Held O
older h = record { offer = h.offer; age = h.age + 1 }

-- the record is in its last second
abbrev pub is_last : {O : Type 0} → Held O → Bool
is_last h = h.age + 1 == lifetime

-- the records a second later: those that don't end, each a second older
abbrev pub second_later : {O : Type 0} → List (Held O) → List (Held O)
second_later held = map older (filter (λ h. not (is_last h)) held)

-- the offers that end with this second
abbrev pub ended : {O : Type 0} → List (Held O) → List O
ended held = map (λ h. h.offer) (filter is_last held)

-- the records ascend by their keys
abbrev pub IsAscending : {O : Type 0} → (O → O → Ordering) → List (Held O) → Type 0
IsAscending by_key [] = Unit
IsAscending by_key (h ∷ rest) = AllByRecursion (λ x. is_lt (by_key h.offer x.offer) ≡ true) rest × IsAscending by_key rest

-- how many of the records have a smaller key
abbrev pub smaller_than : {O K : Type 0} → (O → K) → (K → K → Ordering) → K → List (Held O) → ℕ
smaller_than key_of order key held = length (filter (λ h. is_lt (order (key_of h.offer) key)) held)

-- what a table keeps: no two records are of one key, and none has reached its lifetime
pub record IsKept {O : Type 0} (by_key : O → O → Ordering) (held : List (Held O)) : Type 0 where
  pub distinct : IsDistinct by_key held
  pub young : AllByRecursion (λ h. h.age < lifetime) held

-- the records that stay where the offers of a port end
abbrev pub without_port : {O : Type 0} → (O → ℕ) → ℕ → List (Held O) → List (Held O)
without_port port_by port held = filter (λ h. not (port_by h.offer == port)) held

-- the offers that end with their port
abbrev pub ended_with_port : {O : Type 0} → (O → ℕ) → ℕ → List (Held O) → List O
ended_with_port port_by port held = map (λ h. h.offer) (filter (λ h. port_by h.offer == port) held)

-- what a table has: its records by key, the shares of its ports, and the offers that ended in place and that it still lends
pub record Contents (O : Type 0) : Type 0 where
  pub records : List (Held O)
  pub shares : List ℕ
  pub ended : List O

-- offers ascend by their keys
abbrev pub Ascends : {O : Type 0} → (O → O → Ordering) → List O → Type 0
Ascends by_key [] = Unit
Ascends by_key (offer ∷ rest) = AllByRecursion (λ x. is_lt (by_key offer x) ≡ true) rest × Ascends by_key rest
