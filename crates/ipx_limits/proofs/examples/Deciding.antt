-- What becomes of packets by the usual limits, where so much of each is used.
use Rattle.std.proofs.Common.{◌≡◌, refl, ℕ, [], ◌∷◌}
use Rattle.ipx_fair.specs.declared.meter.Meter.{Meter}
use Rattle.ipx_fair.specs.States.{State}
use Rattle.ipx_limits.specs.declared.decision.Decision.TheVariants.{Passes, TooManyPings, TooManyQuestions, TooManyAdvertisements, TooMuchForRouter, TooManyAnswers}
use Rattle.ipx_limits.specs.declared.kind.Kind.TheVariants.{Ping, Answer, Question, Told, Other}
use Rattle.ipx_limits.specs.declared.uses.Address.{Address}
use Rattle.ipx_limits.specs.declared.uses.Client.{Client}
use Rattle.ipx_limits.specs.Limits.{told_on_links}
use Rattle.ipx_limits.specs.Deciding.{pings, frames_ping, answers, pages, hands, frames_hand, Handed, Account, account}
use Rattle.ipx_limits.proofs.examples.Numbers.{limits}

-- so many nanoseconds are used
abbrev used : ℕ → Meter
used nanoseconds = record { used = nanoseconds }

abbrev client : ℕ → Client
client asked = record { pinged = used 0; asked = used asked; answered = used 0; paged = used 0 }

abbrev address : ℕ → Address
address asked = record { asked = used asked; answered = used 0; paged = used 0 }

abbrev uses : ℕ → ℕ → Account
uses handed advertised = account (used handed) (used advertised)

-- all networks of frames: a link's queue has so much
abbrev links : ℕ → State
links queue = record { setting = told_on_links; left = 0; queues = queue ∷ [] }

-- one of two pings is left, and then none
pub may_ping : pings limits Ping (used 1000000000) (used 0) ≡ Passes
may_ping = refl

pub too_soon : pings limits Ping (used 1000000001) (used 0) ≡ TooManyPings
too_soon = refl

pub others_ping : pings limits Ping (used 0) (used 2000000000) ≡ TooManyPings
others_ping = refl

pub is_no_ping : pings limits Other (used 2000000000) (used 2000000000) ≡ Passes
is_no_ping = refl

-- a question, of an address with one client
pub asks : hands limits 1 Question (client 0) (address 0) (uses 0 0) ≡ Passes
asks = refl

pub asked_too_much : hands limits 1 Question (client 4000000000) (address 0) (uses 0 0) ≡ TooManyQuestions
asked_too_much = refl

-- four clients of one address may ask as much as each of them
pub address_asked : hands limits 4 Question (client 0) (address 3750000000) (uses 0 0) ≡ Passes
address_asked = refl

pub address_asked_too_much : hands limits 1 Question (client 0) (address 3750000000) (uses 0 0) ≡ TooManyQuestions
address_asked_too_much = refl

-- where the router hears too much, a question is no exception, and the client and its address may ask it later
pub too_much : Handed limits 1 Question TooMuchForRouter (client 7) (client 7) (address 7) (address 7) (uses 160000000 0) (uses 160000000 0)
too_much = record { decided = refl; of_client = refl; of_address = refl; of_account = refl }

pub counted : Handed limits 1 Question Passes (client 7) (client 1000000007) (address 7) (address 1000000007) (uses 0 0) (uses 2500000 0)
counted = record { decided = refl; of_client = refl; of_address = refl; of_account = refl }

pub told_too_much : hands limits 1 Told (client 0) (address 0) (uses 0 10500000000) ≡ TooManyAdvertisements
told_too_much = refl

-- half of what an address may hand over is left for what isn't an answer to a ping
pub answer_is_dropped_first : hands limits 1 Answer (client 0) (address 0) (uses 80000000 0) ≡ TooMuchForRouter
answer_is_dropped_first = refl

pub play_goes_on : hands limits 1 Other (client 0) (address 0) (uses 80000000 0) ≡ Passes
play_goes_on = refl

pub isnt_answered : answers limits 1 (used 4000000000) (used 0) ≡ TooManyAnswers
isnt_answered = refl

-- all that the tables hold was answered within a second
pub isnt_answered_by_router : pages limits 1 (used 9400000000) (used 0) ≡ TooManyAnswers
isnt_answered_by_router = refl

-- four clients of one address are answered as much as each of them
pub others_are_answered_by_router : pages limits 4 (used 0) (used 9350000000) ≡ Passes
others_are_answered_by_router = refl

pub in_a_frame : frames_ping limits Ping (used 1750000001) ≡ TooManyPings
in_a_frame = refl

pub frames_ask : frames_hand limits 0 Question (used 0) (used 0) (links 0) ≡ Passes
frames_ask = refl

pub frames_play : frames_hand limits 0 Other (used 4000000000) (used 10500000000) (links 0) ≡ Passes
frames_play = refl

-- what all networks of frames tell, one has told alone
pub links_have_told : frames_hand limits 0 Told (used 0) (used 0) (links 5000000000) ≡ TooManyAdvertisements
links_have_told = refl

-- where another has, this one may tell two hundred all the same
pub another_has_told : frames_hand limits 0 Told (used 0) (used 0) (record { setting = told_on_links; left = 0; queues = 0 ∷ 9000000000 ∷ [] }) ≡ Passes
another_has_told = refl
