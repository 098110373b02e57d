-- What a tally keeps true of itself and its ends.
use Rattle.std.specs.Prelude.{◌≡◌, ℕ, ◌*◌, ◌^◌, ◌<◌, ◌≤◌, ◌⊎◌, List, length}
use Rattle.std.specs.List.{AllByRecursion}
use Rattle.ipx_fair.specs.declared.tally.Tally.{Tally}
use Rattle.ipx_fair.specs.Numbers.{most_time, most_speakers}
use Rattle.ipx_fair.specs.Queues.{total, waiting}
use Rattle.ipx_fair.specs.Keeping.{IsKept}
use Rattle.ipx_fair.specs.Tallies.{queues_of, state_of}

-- each queue that waits has more than that to go
abbrev pub Spares : ℕ → List ℕ → Type 0
Spares spare queues = AllByRecursion (λ (queue : ℕ). (queue ≡ 0) ⊎ (spare < queue)) queues

-- what a tally has counted is so
pub record Agrees (tally : Tally) (ends : List ℕ) : Type 0 where
  pub total : tally.total ≡ total (queues_of tally ends)
  pub waits : tally.waits ≡ waiting (queues_of tally ends)
  pub spare : Spares tally.spare (queues_of tally ends)
  pub latest : AllByRecursion (λ (end : ℕ). end ≤ tally.latest) ends

-- beyond that much service the ends are counted from 0 again
abbrev pub most_served : ℕ
most_served = 2 ^ 61

-- its numbers are small enough to be added
pub record IsSmall (tally : Tally) (ends : List ℕ) : Type 0 where
  pub own : tally.setting.own ≤ most_time
  pub reserve : tally.setting.reserve ≤ most_time
  pub room : tally.setting.room ≤ most_time
  pub speakers : length ends ≤ most_speakers
  pub served : tally.served ≤ most_served
  pub latest : tally.latest ≤ 2 * most_served

-- what is so of every tally
pub record IsHeld (tally : Tally) (ends : List ℕ) : Type 0 where
  pub agrees : Agrees tally ends
  pub kept : IsKept (state_of tally ends)
  pub small : IsSmall tally ends
