-- Who is on a narrow line: addresses with clients there, and those that speak, there or elsewhere.
use Rattle.std.specs.Prelude.{◌≡◌, ℕ, ◌+◌, ◌-◌, ◌^◌, ◌==◌, min, Bool, true, false, nat_le, not, if◌then◌else◌}
use Rattle.ipx_limits.specs.declared.line.Line.{Line}
use Rattle.ipx_limits.specs.declared.line.LineAddress.{LineAddress}
use Rattle.ipx_limits.specs.Numbers.{line_numbers, quiet_seconds}
use Rattle.ipx_limits.specs.declared.queues.Queues.{Queues}
use Rattle.ipx_limits.specs.Queues.{Taken, GivenBack, Unshared}

-- one more, as far as a number goes
abbrev pub one_more : ℕ → ℕ
one_more count = min (count + 1) (2 ^ 32 - 1)

-- an address has one more client, or one fewer
pub record LineJoined (old new : Line) (to to_then : LineAddress) : Type 0 where
  pub of_line : new ≡ record old { addresses = if to.clients == 0 then one_more old.addresses else old.addresses }
  pub of_address : to_then ≡ record to { clients = one_more to.clients }

pub record LineLeft (old new : Line) (to to_then : LineAddress) : Type 0 where
  pub of_line : new ≡ record old { addresses = if to.clients == 1 then old.addresses - 1 else old.addresses }
  pub of_address : to_then ≡ record to { clients = to.clients - 1 }

-- an address speaks: it has a number from then on
pub record BeginsToSpeak (old new : Line) (number : ℕ) : Type 0 where
  pub taken : Taken 1 (line_numbers - 1) number old.numbers new.numbers
  pub rest : new ≡ record old { speakers = one_more old.speakers; numbers = new.numbers }

abbrev pub NumberGiven : Bool → Line → Line → ℕ → ℕ → Type 0
NumberGiven true old new number number_then = BeginsToSpeak old new number_then
NumberGiven false old new number number_then = (new ≡ old) × (number_then ≡ number)

pub record LineSpoken (old new : Line) (to to_then : LineAddress) : Type 0 where
  pub given : NumberGiven (to.number == 0) old new to.number to_then.number
  pub of_address : to_then ≡ record to { number = to_then.number; quiet = 0 }

-- it has none any more
pub record StopsSpeaking (old new : Line) (number : ℕ) : Type 0 where
  pub given_back : GivenBack number old.numbers new.numbers
  pub rest : new ≡ record old { speakers = old.speakers - 1; numbers = new.numbers }

abbrev pub NumberTaken : Bool → Line → Line → ℕ → Type 0
NumberTaken true old new number = StopsSpeaking old new number
NumberTaken false old new number = new ≡ old

pub record LineSilent (old new : Line) (to to_then : LineAddress) : Type 0 where
  pub taken : NumberTaken (not (to.number == 0)) old new to.number
  pub of_address : to_then ≡ record to { number = 0 }

-- a second passes: who was silent for long has none, and who shares one gets one of his own
abbrev pub NumberUnshared : Bool → Queues → Queues → ℕ → ℕ → Type 0
NumberUnshared true old new number number_then = Unshared 1 (line_numbers - 1) number number_then old new
NumberUnshared false old new number number_then = (new ≡ old) × (number_then ≡ number)

pub record StillSpeaks (old new : Line) (to to_then : LineAddress) : Type 0 where
  pub unshared : NumberUnshared (not (to.number == 0)) old.numbers new.numbers to.number to_then.number
  pub of_line : new ≡ record old { numbers = new.numbers }
  pub of_address : to_then ≡ record to { number = to_then.number; quiet = to.quiet + 1 }

abbrev pub LineSecond : Bool → Line → Line → LineAddress → LineAddress → Type 0
LineSecond true old new to to_then = LineSilent old new to to_then
LineSecond false old new to to_then = StillSpeaks old new to to_then

abbrev pub is_silent : LineAddress → Bool
is_silent to = nat_le quiet_seconds to.quiet
