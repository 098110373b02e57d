-- How a receiver is kept in memory. One number grows by what every queue that waits was served; another number for each queue says at which
-- of these it is empty.
use Rattle.std.specs.Prelude.{ℕ, List, replicate}
use Rattle.ipx_fair.specs.declared.setting.Setting.{Setting}
use Rattle.ipx_fair.specs.declared.tally.Tally.{Tally}
use Rattle.ipx_fair.specs.Queues.{lowered}
use Rattle.ipx_fair.specs.States.{State}

abbrev pub queues_of : Tally → List ℕ → List ℕ
queues_of tally ends = lowered tally.served ends

-- the receiver that a tally and its ends stand for
abbrev pub state_of : Tally → List ℕ → State
state_of tally ends = record { setting = tally.setting; left = tally.left; queues = queues_of tally ends }

-- what lies in memory, where C keeps a receiver
pub record Memory : Type 0 where
  pub tally : Tally
  pub ends : List ℕ

-- the receiver that it is
abbrev pub receiver_of : Memory → State
receiver_of memory = state_of memory.tally memory.ends

-- all bytes 0
abbrev pub no_setting : Setting
no_setting = record { one = 0; own = 0; reserve = 0; room = 0 }

abbrev pub zeros : ℕ → Memory
zeros speakers = record {
  tally = record { setting = no_setting; left = 0; served = 0; latest = 0; spare = 0; waits = 0; total = 0 };
  ends = replicate speakers 0;
}
