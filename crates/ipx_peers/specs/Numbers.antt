-- The numbers that mean something, each under one name (own).
use Rattle.std.specs.Prelude.{ℕ, ◌-◌, ◌^◌}

-- the most places
abbrev pub most_places : ℕ
most_places = 64

-- so many numbers of a place are told apart: the latest of each remainder
abbrev pub slots_count : ℕ
slots_count = 256

-- seconds for which a place is present after it was heard
abbrev pub place_lasts : ℕ
place_lasts = 180

-- the bytes of a session, and of an address
abbrev pub session_size : ℕ
session_size = 16

abbrev pub address_size : ℕ
address_size = 24

-- the last number of a session
abbrev pub last_number : ℕ
last_number = 2 ^ 64 - 1
