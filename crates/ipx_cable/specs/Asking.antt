-- When those are asked again who haven't answered.
use Rattle.std.specs.Prelude.{ℕ, ◌+◌, ◌-◌, ◌%◌, ◌/◌, ◌^◌, Bool, ◌==◌, ◌&&◌, ◌||◌, not, nat_lt, min, if◌then◌else◌}
use Rattle.ipx_cable.specs.declared.asked.Asked.{Asked}
use Rattle.ipx_cable.specs.declared.asked.Asks.{Asks}
use Rattle.ipx_cable.specs.Paces.{largest}

-- nanoseconds to the next time, and at random fewer than so many more
abbrev pub least_wait : ℕ
least_wait = 250000000

abbrev pub spread : ℕ
spread = 500000000

abbrev pub millisecond : ℕ
millisecond = 1000000

-- the moment by a number that nobody else knows
abbrev pub moment : (now number : ℕ) → ℕ
moment now number = min (now + (least_wait + number % spread)) largest

-- somebody hasn't answered
abbrev pub waits : Asked → Bool
waits asked = not (asked.again == 0)

-- the first of some moments, of which 0 is none
abbrev pub no_later : (when next : ℕ) → ℕ
no_later when next = if next == 0 || nat_lt when next then when else next

-- it is time to ask
abbrev pub is_due : (now : ℕ) → Asked → Bool
is_due now asked = waits asked && not (nat_lt now asked.again)

-- whoever waits still is asked at his moment
abbrev pub next_after_look : (now : ℕ) → Asked → Asks → ℕ
next_after_look now asked asks = if waits asked && nat_lt now asked.again then no_later asked.again asks.next else asks.next

-- it may be time for somebody
abbrev pub are_due : (now : ℕ) → Asks → Bool
are_due now asks = not (asks.next == 0) && not (nat_lt now asks.next)

-- then that is forgotten, until all have been looked at
abbrev pub next_after_asking : (now : ℕ) → Asks → ℕ
next_after_asking now asks = if are_due now asks then 0 else asks.next

-- milliseconds until then, of which the last is begun; at most so many
abbrev pub patience : (most now : ℕ) → Asks → ℕ
patience most now asks = if asks.next == 0 then most else min most ((asks.next - now + (millisecond - 1)) / millisecond)
