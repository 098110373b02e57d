-- What goes to places without a client, with 100 datagrams a second.
use Rattle.std.proofs.Common.{◌≡◌, refl, ◌*◌, ◌/◌, None, replicate}
use Rattle.ipx_limits.specs.declared.decision.Decision.TheVariants.{Passes, TooMuchForStrangers}
use Rattle.ipx_limits.specs.declared.strangers.StrangersLimits.{StrangersLimits}
use Rattle.ipx_limits.specs.Numbers.{second}
use Rattle.ipx_limits.specs.Strangers.{strangers_at, strangers_of, strangers_of_line, sends, Sent}

abbrev limits : StrangersLimits
limits = strangers_at 100

pub all_in_a_second : second / limits.all.each ≡ 100
all_in_a_second = refl

pub all_at_once : limits.all.burst / limits.all.each ≡ 200
all_at_once = refl

pub one_in_a_second : second / limits.one.each ≡ 12
one_in_a_second = refl

pub one_at_once : limits.one.burst / limits.one.each ≡ 100
one_at_once = refl

-- however few there may be, a registration is answered
pub few_at_once : (strangers_at 1).one.burst / (strangers_at 1).one.each ≡ 4
few_at_once = refl

pub few_at_once_of_all : (strangers_at 1).all.burst / (strangers_at 1).all.each ≡ 4
few_at_once_of_all = refl

pub is_answered : Sent limits 2 Passes (record { used = 0 }) (record { used = 160000000 }) (record { used = 1980000000 }) (record { used = 2000000000 })
is_answered = record { decided = refl; of_address = refl; of_all = refl }

pub all_were_sent_enough : Sent limits 2 TooMuchForStrangers (record { used = 0 }) (record { used = 0 }) (record { used = 1980000001 }) (record { used = 1980000001 })
all_were_sent_enough = record { decided = refl; of_address = refl; of_all = refl }

pub one_was_sent_enough : sends limits 1 (record { used = 8000000000 }) (record { used = 0 }) ≡ TooMuchForStrangers
one_was_sent_enough = refl

-- by a line of 64 kilobits a second a datagram takes 10.6 milliseconds, of which strangers have one part in 32, and a fifth of that is spare: so
-- somebody may register every 1.7 seconds, and four may at once
abbrev narrow : StrangersLimits
narrow = strangers_of_line (record { kilobits = 64; addresses = 0; speakers = 0; used = 0; own = 0; to_strangers = 0; numbers = record { users = replicate 256 0; last = 0 } })

pub one_by_line : narrow.all ≡ record { each = 422222200; burst = 16 * 422222200 }
one_by_line = refl

pub of_house : narrow.one ≡ record { each = 8 * 422222200; burst = 128 * 422222200 }
of_house = refl

pub no_limit : strangers_of 0 ≡ None
no_limit = refl
