-- What is so of every state that comes about.
use Rattle.std.specs.Prelude.{◌≡◌, ◌+◌, ◌<◌, ◌≤◌, ◌⊎◌}
use Rattle.ipx_fair.specs.Queues.{waiting, beyond}
use Rattle.ipx_fair.specs.States.{State}

-- fewer nanoseconds are left than queues wait. What queues have beyond the own part of each is within the room, and what they have beyond
-- the one of each is within the room and the reserve
pub record IsKept (s : State) : Type 0 where
  pub own_is_more : s.setting.one ≤ s.setting.own
  pub few_left : (s.left ≡ 0) ⊎ (s.left < waiting s.queues)
  pub fits : beyond s.setting.own s.queues ≤ s.setting.room
  pub tight : beyond s.setting.one s.queues ≤ s.setting.room + s.setting.reserve
