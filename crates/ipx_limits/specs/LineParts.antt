-- The parts of a narrow line, by which packets go out to addresses. All is in nanoseconds that the line takes; what is used of a part is kept
-- as the moment until which it is.
use Rattle.std.specs.Prelude.{ℕ, ◌+◌, ◌-◌, ◌*◌, ◌/◌, ◌==◌, min, max, Bool, ◌&&◌, not, if◌then◌else◌}
use Rattle.ipx_limits.specs.declared.line.Line.{Line}
use Rattle.ipx_limits.specs.declared.line.LineAddress.{LineAddress}
use Rattle.ipx_limits.specs.Numbers.{second, line_headers, line_longest, line_short, byte_by_kilobit, tenths, tenths_used, at_once, said_at_once, most_parts, own_parts, pair_parts}
use Rattle.ipx_limits.specs.Receiving.{in_word}

-- ---- moments

-- how long something is used still
abbrev pub ahead : ℕ → ℕ → ℕ
ahead now moment = moment - now

-- so many nanoseconds from now on
abbrev pub from_now : ℕ → ℕ → ℕ
from_now now nanoseconds = in_word (now + nanoseconds)

-- no later than so many nanoseconds from now on
abbrev pub held : ℕ → ℕ → ℕ → ℕ
held now most moment = min moment (from_now now most)

-- ---- parts

-- how long a packet takes
abbrev pub cost : Line → ℕ → ℕ
cost line bytes = (min bytes line_longest + line_headers) * (byte_by_kilobit * tenths) / (tenths_used * max 1 line.kilobits)

abbrev pub longest : Line → ℕ
longest line = cost line line_longest

-- how many parts the line has for those who receive, and how many for those who speak
abbrev pub receivers : Line → ℕ
receivers line = min line.addresses most_parts

abbrev pub speakers : Line → ℕ
speakers line = min line.speakers most_parts

-- and for both: each who speaks has a part of each address' part, but none of its own where it has one client alone
abbrev pub speaks_alone : LineAddress → Bool
speaks_alone to = not (to.number == 0) && to.clients == 1

abbrev pub sharers : Line → LineAddress → ℕ
sharers line to = max 1 (speakers line - (if speaks_alone to then 1 else 0))

abbrev pub pairs : Line → LineAddress → ℕ
pairs line to = receivers line * sharers line to

-- ---- what copies take of them

-- 29 of 32 parts of the line are those that speakers have of addresses' parts: so a copy takes three of 29 parts more of one
abbrev pub more : ℕ → ℕ
more nanoseconds = ((own_parts - pair_parts) * nanoseconds + (pair_parts - 1)) / pair_parts

abbrev pub pair_cost : Line → LineAddress → ℕ → ℕ
pair_cost line to bytes = pairs line to * (cost line bytes + more (cost line bytes))

-- one is what speakers say to all
abbrev pub said_cost : Line → ℕ → ℕ
said_cost line bytes = speakers line * (own_parts * cost line bytes)

-- of each so much may be used at once, or a short packet
abbrev pub most_within : Line → LineAddress → ℕ
most_within line to = max at_once (pair_cost line to line_short)

abbrev pub most_said : Line → ℕ
most_said line = max said_at_once (said_cost line line_short)

-- what a speaker may say to an address beyond that at once: as much as a second of his part, or a short packet
abbrev pub most_spoken : Line → LineAddress → ℕ
most_spoken line to = max second (pairs line to * cost line line_short)

-- ---- what is owed

-- whoever used a part while it was smaller owes no more for it than one of the longest packets takes of it now
abbrev pub owed : ℕ → ℕ → ℕ → ℕ → ℕ
owed now most of_longest moment = held now (most + of_longest) moment
