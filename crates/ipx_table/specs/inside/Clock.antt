-- A table's clock and slots: the clock goes on, records end by their slot or their port, and what a table keeps true of both.
use Rattle.std.specs.Prelude.{ℕ, ◌+◌, ◌%◌, ◌<◌, ◌≤◌, ◌≡◌, ◌==◌, Bool, not, List, ◌++◌, length, take}
use Rattle.std.specs.List.{AllByRecursion, filter, zip}
use Rattle.std.specs.declared.cmp.Ordering.{Ordering}
use Rattle.ipx_table.specs.Alive.{lifetime}
use Rattle.ipx_table.specs.Stands.{IsAscending}
use Rattle.ipx_table.specs.declared.ending.Ending.{Ending}
use Rattle.ipx_table.specs.declared.ending.Ending.TheVariants.{Slot, Port}
use Rattle.ipx_table.specs.Slots.{seen}

-- the clock a second later
abbrev pub next : ℕ → ℕ
next clock = (clock + 1) % lifetime

-- the record ends: it is of that slot, or came by that port
abbrev pub ends : {O : Type 0} → (O → ℕ) → Ending → O × ℕ → Bool
ends port_by (Slot slot) kept = kept.1 == slot
ends port_by (Port port) kept = port_by kept.0 == port

-- the records that stay, then those that end
abbrev pub parted : {O : Type 0} → (O → ℕ) → Ending → List (O × ℕ) → List (O × ℕ)
parted port_by ending records = filter (λ p. not (ends port_by ending p)) records ++ filter (ends port_by ending) records

-- each offer has a slot; slots and clock are below the lifetime
pub record AreKept {O : Type 0} (offers : List O) (slots : List ℕ) (clock : ℕ) : Type 0 where
  pub same : length slots ≡ length offers
  pub below : AllByRecursion (λ p. p.1 < lifetime) (zip offers slots)
  pub going : clock < lifetime

-- what a table keeps true: records ascend by key, slots and clock are below the lifetime
pub record IsSorted {O : Type 0} (by_key : O → O → Ordering) (records : List (O × ℕ)) (clock : ℕ) : Type 0 where
  pub ascending : IsAscending by_key (seen clock records)
  pub slots : AllByRecursion (λ p. p.1 < lifetime) records
  pub going : clock < lifetime

-- the records that a table has stand in front of those that ended
pub record IsParted {O : Type 0} (by_key : O → O → Ordering) (records : List (O × ℕ)) (live clock : ℕ) : Type 0 where
  pub sorted : IsSorted by_key (take live records) clock
  pub within : live ≤ length records
