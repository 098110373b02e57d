-- The memory that one trace leaves to the next.
use Rattle.std.specs.Prelude.{◌≡◌, ℕ, ◌+◌, ◌≤◌, List, [], length}
use Rattle.ipx_router.specs.Outbox.{Contents, total}
use Rattle.ipx_router.specs.declared.outcome.Outcome.{Outcome}
use Rattle.ipx_internet.specs.declared.listing.Listed.{Listed}

-- for how many receptions, for how many outcomes and for how many bytes of packets that are sent on it is large enough
pub record Memory : Type 0 where
  pub receptions : ℕ
  pub outcomes : ℕ
  pub bytes : ℕ

-- none
abbrev pub no_memory : Memory
no_memory = record { receptions = 0; outcomes = 0; bytes = 0 }

-- as much, or more
pub record IsNoLess (old new : Memory) : Type 0 where
  pub receptions : old.receptions ≤ new.receptions
  pub outcomes : old.outcomes ≤ new.outcomes
  pub bytes : old.bytes ≤ new.bytes

-- the memory for a trace's receptions, and the outbox for what routers send on
pub record Room : Type 0 where
  pub lists : Memory
  pub outbox : Contents

-- an outbox has as much room as before, or more, once its packets are taken out
pub record HoldsNoLess (old new : Contents) : Type 0 where
  pub packets : old.places + length old.sent ≤ new.places + length new.sent
  pub bytes : old.spare + total old.sent ≤ new.spare + total new.sent

-- lists without items
pub record AreEmpty (bytes : List ℕ) (listed : List Listed) (became : List Outcome) : Type 0 where
  pub store : bytes ≡ []
  pub list : listed ≡ []
  pub outcomes : became ≡ []
