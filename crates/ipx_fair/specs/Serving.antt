-- Time passes: all queues that wait are served alike.
use Rattle.std.specs.Prelude.{◌≡◌, ℕ, ◌+◌, ◌<◌, ◌≤◌, ◌⊎◌, List}
use Rattle.ipx_fair.specs.Queues.{total, waiting, lowered}
use Rattle.ipx_fair.specs.States.{State}

-- some time serves queues: each of them as much as any other, until it is empty. The time is used up, but for fewer nanoseconds than queues
-- wait then; or all queues are empty, and the rest of the time is lost
pub record Served (time : ℕ) (old new : List ℕ) (left : ℕ) : Type 0 where
  pub level : ℕ
  pub queues : new ≡ lowered level old
  pub time_used : ((total new ≡ 0) × (left ≡ 0) × (total old ≤ time)) ⊎ ((left < waiting new) × (time + total new ≡ left + total old))

-- so many nanoseconds pass
pub record Passed (nanoseconds : ℕ) (old new : State) : Type 0 where
  pub setting : new.setting ≡ old.setting
  pub served : Served (old.left + nanoseconds) old.queues new.queues new.left
