-- The number of a segment that means something, under one name (own; a bridge's usual five minutes).
use Rattle.std.specs.Prelude.{ℕ}

-- for how many seconds a station is known after it was heard
abbrev pub station_lasts : ℕ
station_lasts = 300
