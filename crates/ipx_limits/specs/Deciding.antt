-- What becomes of a packet by limits that are metered. A packet that one limit refuses is counted by none.
use Rattle.std.specs.Prelude.{◌≡◌, ℕ, ◌-◌, ◌<◌, Bool, true, false, ◌&&◌, not, if◌then◌else◌, length}
use Rattle.ipx_fair.specs.States.{State}
use Rattle.ipx_fair.specs.Hearing.{hears_from}
use Rattle.ipx_fair.specs.declared.meter.Meter.{Meter}
use Rattle.ipx_fair.specs.Meters.{lets, used_after}
use Rattle.ipx_limits.specs.declared.decision.Decision.{Decision}
use Rattle.ipx_limits.specs.declared.decision.Decision.TheVariants.{Passes, TooManyPings, TooManyQuestions, TooManyAdvertisements, TooMuchForRouter, TooManyAnswers}
use Rattle.ipx_limits.specs.declared.kind.Kind.{Kind}
use Rattle.ipx_limits.specs.declared.kind.Kind.TheVariants.{Ping, Answer, Question, Told}
use Rattle.ipx_limits.specs.declared.limits.Limit.{Limit}
use Rattle.ipx_limits.specs.declared.limits.Limits.{Limits}
use Rattle.ipx_limits.specs.declared.uses.Address.{Address}
use Rattle.ipx_limits.specs.declared.uses.Client.{Client}
use Rattle.ipx_limits.specs.Limits.{of_clients, told_each}
use Rattle.ipx_limits.specs.Several.{Counted}

-- a limit has room for one more
abbrev pub has_room : Limit → Meter → Bool
has_room limit used = lets used limit.burst limit.each

-- what is used of it after one that counts, or doesn't
abbrev pub used_then : Limit → Bool → Meter → Meter
used_then limit counts used = used_after used limit.each counts

-- some time later
abbrev pub later : ℕ → Meter → Meter
later nanoseconds used = record { used = used.used - nanoseconds }

abbrev pub passes : Decision → Bool
passes Passes = true
passes _ = false

-- kinds

abbrev pub is_ping : Kind → Bool
is_ping Ping = true
is_ping _ = false

abbrev pub is_question : Kind → Bool
is_question Question = true
is_question _ = false

abbrev pub is_told : Kind → Bool
is_told Told = true
is_told _ = false

-- ---- pings: of a client, and of all clients of a network

abbrev pub pings : Limits → Kind → Meter → Meter → Decision
pings limits kind client all =
    if is_ping kind && not (has_room limits.pings client && has_room limits.all_pings all) then TooManyPings else Passes

pub record Pinged (limits : Limits) (kind : Kind) (decision : Decision) (old new : Client) (all all_then : Meter) : Type 0 where
  pub decided : decision ≡ pings limits kind old.pinged all
  pub of_client : new ≡ record old { pinged = used_then limits.pings (is_ping kind && passes decision) old.pinged }
  pub of_all : all_then ≡ used_then limits.all_pings (is_ping kind && passes decision) all

-- pings that come in frames: nobody knows whose they are
abbrev pub frames_ping : Limits → Kind → Meter → Decision
frames_ping limits kind all = if is_ping kind && not (has_room limits.all_pings all) then TooManyPings else Passes

pub record PingedInFrame (limits : Limits) (kind : Kind) (decision : Decision) (all all_then : Meter) : Type 0 where
  pub decided : decision ≡ frames_ping limits kind all
  pub of_all : all_then ≡ used_then limits.all_pings (is_ping kind && passes decision) all

-- ---- answers of the gateway, to a client and to its address, which has so many

abbrev pub answers : Limits → ℕ → Meter → Meter → Decision
answers limits clients client address =
    if has_room limits.answers client && has_room (of_clients clients limits.answers) address then Passes else TooManyAnswers

pub record Answered (limits : Limits) (clients : ℕ) (decision : Decision) (old new : Client) (address address_then : Address) : Type 0 where
  pub decided : decision ≡ answers limits clients old.answered address.answered
  pub of_client : new ≡ record old { answered = used_then limits.answers (passes decision) old.answered }
  pub of_address : address_then ≡ record address { answered = used_then (of_clients clients limits.answers) (passes decision) address.answered }

-- ---- answers of the router to what a client asked, by packets, and to all clients of its address

abbrev pub pages : Limits → ℕ → Meter → Meter → Decision
pages limits clients client address =
    if has_room limits.pages client && has_room (of_clients clients limits.pages) address then Passes else TooManyAnswers

pub record Paged (limits : Limits) (clients : ℕ) (decision : Decision) (old new : Client) (address address_then : Address) : Type 0 where
  pub decided : decision ≡ pages limits clients old.paged address.paged
  pub of_client : new ≡ record old { paged = used_then limits.pages (passes decision) old.paged }
  pub of_address : address_then ≡ record address { paged = used_then (of_clients clients limits.pages) (passes decision) address.paged }

-- ---- what a client hands to the router

-- what an address uses of what the router hears, and of what routers tell it
pub record Account : Type 0 where
  pub handed : Meter
  pub advertised : Meter

abbrev pub account : Meter → Meter → Account
account handed advertised = record { handed = handed; advertised = advertised }

-- questions that a client may ask, and its address
abbrev pub may_ask : Limits → ℕ → Kind → Client → Address → Bool
may_ask limits clients Question client address = has_room limits.questions client.asked && has_room (of_clients clients limits.questions) address.asked
may_ask limits clients _ client address = true

-- what an address may tell
abbrev pub may_tell : Limits → Kind → Meter → Bool
may_tell limits Told advertised = has_room limits.advertisements advertised
may_tell limits _ advertised = true

-- what an address may hand over: answers to pings use no more than a part of that
abbrev pub may_hand : Limits → Kind → Meter → Bool
may_hand limits Answer handed = lets handed limits.handed_answers limits.handed.each && has_room limits.handed handed
may_hand limits _ handed = has_room limits.handed handed

abbrev pub hands : Limits → ℕ → Kind → Client → Address → Account → Decision
hands limits clients kind client address account =
    if not (may_ask limits clients kind client address) then TooManyQuestions
    else if not (may_tell limits kind account.advertised) then TooManyAdvertisements
    else if not (may_hand limits kind account.handed) then TooMuchForRouter
    else Passes

pub record Handed (limits : Limits) (clients : ℕ) (kind : Kind) (decision : Decision) (old new : Client) (address address_then : Address)
    (account account_then : Account) : Type 0 where
  pub decided : decision ≡ hands limits clients kind old address account
  pub of_client : new ≡ record old { asked = used_then limits.questions (is_question kind && passes decision) old.asked }
  pub of_address : address_then ≡ record address { asked = used_then (of_clients clients limits.questions) (is_question kind && passes decision) address.asked }
  pub of_account : account_then ≡ record {
    handed = used_then limits.handed (passes decision) account.handed;
    advertised = used_then limits.advertisements (is_told kind && passes decision) account.advertised;
  }

-- ---- what a network of frames hands to the router; what it tells counts for all such links, too

abbrev pub frames_hand : Limits → ℕ → Kind → Meter → Meter → State → Decision
frames_hand limits link Question asked told links = if has_room limits.questions asked then Passes else TooManyQuestions
frames_hand limits link Told asked told links =
    if has_room limits.advertisements told && hears_from links link told_each then Passes else TooManyAdvertisements
frames_hand limits link _ asked told links = Passes

pub record FramesHanded (limits : Limits) (link : ℕ) (kind : Kind) (decision : Decision) (asked asked_then told told_then : Meter)
    (links links_then : State) : Type 0 where
  pub there : link < length links.queues
  pub decided : decision ≡ frames_hand limits link kind asked told links
  pub questions : asked_then ≡ used_then limits.questions (is_question kind && passes decision) asked
  pub advertisements : told_then ≡ used_then limits.advertisements (is_told kind && passes decision) told
  pub of_all : Counted (is_told kind && passes decision) link told_each links links_then
