-- The numbers of a receiver that mean something, each under one name (own).
use Rattle.std.specs.Prelude.{ℕ, Bool, ◌^◌, ◌&&◌, nat_le}
use Rattle.ipx_fair.specs.declared.setting.Setting.{Setting}

-- the largest number of a setting, in nanoseconds: 18 minutes
abbrev pub most_time : ℕ
most_time = 2 ^ 40

-- the most speakers of one receiver
abbrev pub most_speakers : ℕ
most_speakers = 2 ^ 16

-- a receiver of that setting can be had
abbrev pub can_be : Setting → ℕ → Bool
can_be setting speakers =
    nat_le setting.one setting.own && nat_le setting.own most_time && nat_le setting.reserve most_time && nat_le setting.room most_time
    && nat_le speakers most_speakers
