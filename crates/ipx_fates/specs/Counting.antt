-- What is counted of packets.
use Rattle.std.specs.Prelude.{ℕ, ◌+◌, ◌-◌, ◌*◌, ◌/◌, ◌%◌, ◌^◌, Bool, ◌&&◌, nat_lt, min, if◌then◌else◌, List, get_or, set, replicate}
use Rattle.ipx_fates.specs.declared.counts.Counts.{Counts}
use Rattle.ipx_fates.specs.declared.fate.Fate.{Fate}
use Rattle.ipx_fates.specs.declared.fate.Fate.TheVariants.{Elsewhere, Heard, Dropped, HandedOn, Answered, Stays, Awaited, Probe, Lost}
use Rattle.ipx_fates.specs.declared.reason.Reason.{Reason}
use Rattle.ipx_fates.specs.Fates.{reasons_count, reason_number}

-- no count is higher
abbrev pub largest : ℕ
largest = 2 ^ 64 - 1

abbrev pub more : ℕ → ℕ
more count = min (count + 1) largest

abbrev pub more_at : List ℕ → ℕ → List ℕ
more_at list index = set list index (more (get_or list index 0))

-- ---- the router's drops, by their numbers: hundreds up to 18, and a rest up to 9

abbrev pub hundreds_count : ℕ
hundreds_count = 19

abbrev pub rest_count : ℕ
rest_count = 10

abbrev pub drops_count : ℕ
drops_count = 190

abbrev pub has_place : ℕ → Bool
has_place number = nat_lt (number / 100) hundreds_count && nat_lt (number % 100) rest_count

abbrev pub place_of : ℕ → ℕ
place_of number = number / 100 * rest_count + number % 100

-- ---- counts

abbrev pub nothing : Counts
nothing = record { came = 0; lost = replicate reasons_count 0; dropped = replicate drops_count 0 }

-- a packet came
abbrev pub one_came : Counts → Counts
one_came counts = record {
  came = more counts.came;
  lost = counts.lost;
  dropped = counts.dropped;
}

-- one is lost, or a copy
abbrev pub one_lost : Reason → Counts → Counts
one_lost why counts = record {
  came = counts.came;
  lost = more_at counts.lost (reason_number why);
  dropped = counts.dropped;
}

-- the router drops one
abbrev pub one_dropped : ℕ → Counts → Counts
one_dropped number counts = if has_place number then record {
  came = counts.came;
  lost = counts.lost;
  dropped = more_at counts.dropped (place_of number);
} else counts

-- a packet had this fate. What a network on another cable hears isn't counted here
abbrev pub counted : Fate → Counts → Counts
counted Elsewhere counts = counts
counted Heard counts = one_came counts
counted (Dropped number) counts = one_dropped number (one_came counts)
counted HandedOn counts = one_came counts
counted Answered counts = one_came counts
counted Stays counts = one_came counts
counted Awaited counts = one_came counts
counted Probe counts = one_came counts
counted (Lost why) counts = one_lost why (one_came counts)
