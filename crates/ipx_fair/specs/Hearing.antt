-- A speaker says a packet of some weight: the nanoseconds that the receiver needs for it.
use Rattle.std.specs.Prelude.{◌≡◌, ℕ, ◌+◌, ◌<◌, Bool, ◌&&◌, ◌||◌, nat_le, if◌then◌else◌, List, length, get_or, set}
use Rattle.ipx_fair.specs.declared.setting.Setting.{Setting}
use Rattle.ipx_fair.specs.Queues.{total}
use Rattle.ipx_fair.specs.States.{State}

-- a packet is heard: its queue stays within what each always has; or within what each has while all of them stay within the room and the
-- reserve; or this queue and all together leave room
abbrev pub hears : Setting → ℕ → ℕ → ℕ → Bool
hears setting queue all weight =
    nat_le (queue + weight) setting.one
    || (nat_le (queue + weight) setting.own && nat_le (all + weight) (setting.room + setting.reserve))
    || nat_le (queue + all + weight) setting.room

-- the queue of a speaker
abbrev pub queue_of : List ℕ → ℕ → ℕ
queue_of queues speaker = get_or queues speaker 0

-- a receiver hears a speaker's packet
abbrev pub hears_from : State → ℕ → ℕ → Bool
hears_from s speaker weight = hears s.setting (queue_of s.queues speaker) (total s.queues) weight

-- a packet that is heard goes into the queue of who says it
abbrev pub queues_after : List ℕ → ℕ → ℕ → Bool → List ℕ
queues_after queues speaker weight heard = if heard then set queues speaker (queue_of queues speaker + weight) else queues

-- the receiver after a packet
abbrev pub after : State → ℕ → ℕ → Bool → State
after s speaker weight heard = record s { queues = queues_after s.queues speaker weight heard }

-- a speaker says a packet, and it is heard or isn't
pub record Said (speaker weight : ℕ) (heard : Bool) (old new : State) : Type 0 where
  pub there : speaker < length old.queues
  pub setting : new.setting ≡ old.setting
  pub left : new.left ≡ old.left
  pub decided : heard ≡ hears_from old speaker weight
  pub queues : new.queues ≡ queues_after old.queues speaker weight heard
