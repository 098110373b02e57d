-- How a table's records keep their age: a clock goes round, and a record has the slot at which it was accepted last.
use Rattle.std.specs.Prelude.{ℕ, ◌+◌, ◌-◌, ◌%◌, List, map}
use Rattle.ipx_table.specs.Alive.{lifetime}
use Rattle.ipx_table.specs.declared.held.Held.{Held}

-- the age of what was accepted at a slot
abbrev pub age_at : ℕ → ℕ → ℕ
age_at clock slot = (clock + lifetime - slot) % lifetime

-- an offer and its slot, as a record with its age
abbrev pub seen_at : {O : Type 0} → ℕ → O × ℕ → Held O
seen_at clock kept = record { offer = kept.0; age = age_at clock kept.1 }

-- all of them
abbrev pub seen : {O : Type 0} → ℕ → List (O × ℕ) → List (Held O)
seen clock records = map (seen_at clock) records
