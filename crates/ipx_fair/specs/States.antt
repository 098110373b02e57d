-- What a receiver is.
use Rattle.std.specs.Prelude.{ℕ, List, replicate}
use Rattle.ipx_fair.specs.declared.setting.Setting.{Setting}

-- the nanoseconds that are left are fewer than queues wait: they serve these the next time
pub record State : Type 0 where
  pub setting : Setting
  pub left : ℕ
  pub queues : List ℕ

-- a receiver for which nothing waits
abbrev pub empty : Setting → ℕ → State
empty setting speakers = record { setting = setting; left = 0; queues = replicate speakers 0 }
