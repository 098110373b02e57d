-- What a tunnel sends to places that have no client: somebody may have forged them.
use Rattle.std.specs.Prelude.{◌≡◌, ℕ, ◌+◌, ◌*◌, ◌/◌, ◌==◌, min, max, Bool, ◌&&◌, if◌then◌else◌, List, [], ◌∷◌, Option, None, Some}
use Rattle.ipx_fair.specs.declared.meter.Meter.{Meter}
use Rattle.ipx_fair.specs.Meters.{lets, used_after}
use Rattle.ipx_limits.specs.declared.decision.Decision.{Decision}
use Rattle.ipx_limits.specs.declared.decision.Decision.TheVariants.{Passes, TooMuchForStrangers}
use Rattle.ipx_limits.specs.declared.limits.Limit.{Limit}
use Rattle.ipx_limits.specs.declared.strangers.StrangersLimits.{StrangersLimits}
use Rattle.ipx_limits.specs.declared.line.Line.{Line}
use Rattle.ipx_limits.specs.Numbers.{second, most_rate, own_at_once, own_datagram, parts_of_one}
use Rattle.ipx_limits.specs.Limits.{each_of}
use Rattle.ipx_limits.specs.LineRoom.{own_cost}
use Rattle.ipx_limits.specs.Receiving.{in_word}
use Rattle.ipx_limits.specs.Deciding.{passes, later}

-- one address gets one part in so many of what goes to all
abbrev pub address_part : ℕ
address_part = 8

-- seconds of what goes to all, that may go at once; of one address half of that; and never fewer than the datagrams of a registration: its
-- answer, that again, and two pings
abbrev pub seconds_at_once : ℕ
seconds_at_once = 2

abbrev pub registration : ℕ
registration = 4

abbrev pub one_each : ℕ → ℕ
one_each rate = address_part * second / rate

-- the limits for so many datagrams a second
abbrev pub strangers_at : ℕ → StrangersLimits
strangers_at rate = record {
  all = record { each = each_of rate; burst = each_of rate * max (seconds_at_once * rate) registration };
  one = record { each = one_each rate; burst = one_each rate * max rate registration };
}

abbrev pub strangers_of : ℕ → Option StrangersLimits
strangers_of rate = if rate == 0 then None else Some (strangers_at (min rate most_rate))

-- ---- by a narrow line, all networks together: what follows upon a registration is counted when that comes, and goes out up to nine seconds later

-- registrations at once
abbrev pub line_registrations : ℕ
line_registrations = 4

-- of what strangers have of the line, one part in so many more than is counted stays free, so that what goes out later finds room
abbrev pub spare_part : ℕ
spare_part = 4

abbrev pub with_spare : ℕ → ℕ
with_spare nanoseconds = nanoseconds + nanoseconds / spare_part

abbrev pub line_each : Line → ℕ
line_each line = with_spare (own_cost line own_datagram)

abbrev pub line_limit : ℕ → Limit
line_limit each = record { each = each; burst = max own_at_once (line_registrations * registration * each) }

abbrev pub strangers_of_line : Line → StrangersLimits
strangers_of_line line = record { all = line_limit (line_each line); one = line_limit (parts_of_one * line_each line) }

-- ---- datagrams that go out together go out or don't

abbrev pub weigh : Limit → ℕ → ℕ
weigh limit count = in_word (count * limit.each)

abbrev pub may_go : Limit → ℕ → Meter → Bool
may_go limit count used = lets used limit.burst (weigh limit count)

abbrev pub sends : StrangersLimits → ℕ → Meter → Meter → Decision
sends limits count address all = if may_go limits.one count address && may_go limits.all count all then Passes else TooMuchForStrangers

-- to an address, of all that go to places without a client
pub record Sent (limits : StrangersLimits) (count : ℕ) (decision : Decision) (address address_then all all_then : Meter) : Type 0 where
  pub decided : decision ≡ sends limits count address all
  pub of_address : address_then ≡ used_after address (weigh limits.one count) (passes decision)
  pub of_all : all_then ≡ used_after all (weigh limits.all count) (passes decision)

-- ---- one after the other

pub data Event : Type 0 where
  Passing : ℕ → Event
  -- so many datagrams are to go out
  Sends : (count : ℕ) (decision : Decision) → Event

abbrev pub time_of : List Event → ℕ
time_of [] = 0
time_of (Passing nanoseconds ∷ events) = nanoseconds + time_of events
time_of (Sends count decision ∷ events) = time_of events

-- datagrams that went out
abbrev pub sent : List Event → ℕ
sent [] = 0
sent (Passing nanoseconds ∷ events) = sent events
sent (Sends count decision ∷ events) = (if passes decision then count else 0) + sent events

-- to all: whichever addresses they went to
abbrev pub AllStep : StrangersLimits → Event → Meter → Meter → Type 0
AllStep limits (Passing nanoseconds) old new = new ≡ later nanoseconds old
AllStep limits (Sends count decision) old new = (address : Meter) × ((address_then : Meter) × Sent limits count decision address address_then old new)

abbrev pub AllRuns : StrangersLimits → Meter → List Event → Meter → Type 0
AllRuns limits old [] new = new ≡ old
AllRuns limits old (event ∷ events) new = (next : Meter) × AllStep limits event old next × AllRuns limits next events new

-- to one address: whatever went to others
abbrev pub OneStep : StrangersLimits → Event → Meter → Meter → Type 0
OneStep limits (Passing nanoseconds) old new = new ≡ later nanoseconds old
OneStep limits (Sends count decision) old new = (all : Meter) × ((all_then : Meter) × Sent limits count decision old new all all_then)

abbrev pub OneRuns : StrangersLimits → Meter → List Event → Meter → Type 0
OneRuns limits old [] new = new ≡ old
OneRuns limits old (event ∷ events) new = (next : Meter) × OneStep limits event old next × OneRuns limits next events new
