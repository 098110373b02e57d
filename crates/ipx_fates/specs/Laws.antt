-- The words of the laws.
use Rattle.std.specs.Prelude.{ℕ, ◌+◌, ◌<◌, ◌==◌, Bool, true, false, not, List, [], ◌∷◌}
use Rattle.std.specs.List.{list_any}
use Rattle.ipx_fates.specs.declared.counts.Counts.{Counts}
use Rattle.ipx_fates.specs.declared.course.Course.{Course}
use Rattle.ipx_fates.specs.declared.course.Course.TheVariants.{Goes, Ends}
use Rattle.ipx_fates.specs.declared.fate.Fate.{Fate}
use Rattle.ipx_fates.specs.declared.fate.Fate.TheVariants.{Elsewhere, Heard, Dropped, HandedOn, Answered, Stays, Awaited, Probe, Lost}
use Rattle.ipx_fates.specs.declared.reason.Reason.{Reason}
use Rattle.ipx_fates.specs.declared.step.FrameStep.{FrameStep}
use Rattle.ipx_fates.specs.declared.step.FrameStep.TheVariants as asks
use Rattle.ipx_fates.specs.declared.step.WordStep.{WordStep}
use Rattle.ipx_fates.specs.declared.step.WordStep.TheVariants as says
use Rattle.ipx_fates.specs.declared.step.RouterStep.{RouterStep}
use Rattle.ipx_fates.specs.declared.step.RouterStep.TheVariants as routes
use Rattle.ipx_fates.specs.declared.step.DatagramStep.{DatagramStep}
use Rattle.ipx_fates.specs.declared.step.DatagramStep.TheVariants as hears
use Rattle.ipx_fates.specs.declared.step.Step.{Step}
use Rattle.ipx_fates.specs.declared.step.Step.TheVariants.{Frame, Datagram, Word, Router}
use Rattle.ipx_fates.specs.Fates.{reason_number}
use Rattle.ipx_fates.specs.Counting.{nothing, has_place, counted}

-- ---- steps by which somebody gets a packet

-- others of its network
abbrev pub is_put : FrameStep → Bool
is_put asks.PutOnLinks = true
is_put other = false

abbrev pub is_carry : WordStep → Bool
is_carry says.Carry = true
is_carry other = false

-- other networks, somebody who asked, or the router
abbrev pub is_hearing : RouterStep → Bool
is_hearing routes.LetsHear = false
is_hearing routes.IsForAll = false
is_hearing routes.Extend = true
is_hearing routes.IsAwaited = true
is_hearing routes.Hear = true
is_hearing routes.Outcome = false

abbrev pub goes_on : Step → Bool
goes_on (Frame step) = false
goes_on (Datagram step) = false
goes_on (Word step) = false
goes_on (Router step) = is_hearing step

abbrev pub reaches : Step → Bool
reaches (Frame step) = is_put step
reaches (Datagram step) = false
reaches (Word step) = is_carry step
reaches (Router step) = is_hearing step

-- the tunnel hears it
abbrev pub is_tunnel : DatagramStep → Bool
is_tunnel hears.Hear = true
is_tunnel other = false

abbrev pub tunnel_hears : Step → Bool
tunnel_hears (Frame step) = false
tunnel_hears (Datagram step) = is_tunnel step
tunnel_hears (Word step) = false
tunnel_hears (Router step) = false

-- nobody of its network gets it, nor another network, nor the router
abbrev pub reaches_nobody : List Step → Bool
reaches_nobody steps = not (list_any reaches steps)

-- the router doesn't hear it, nor do other networks get copies
abbrev pub is_unheard : List Step → Bool
is_unheard steps = not (list_any goes_on steps)

-- the router heard a packet, and took it or dropped it
abbrev pub is_heard : Fate → Bool
is_heard Elsewhere = false
is_heard Heard = true
is_heard (Dropped number) = true
is_heard HandedOn = false
is_heard Answered = false
is_heard Stays = false
is_heard Awaited = false
is_heard Probe = false
is_heard (Lost why) = false

-- it went to others of its network alone
abbrev pub is_handed : Fate → Bool
is_handed Elsewhere = false
is_handed Heard = false
is_handed (Dropped number) = false
is_handed HandedOn = true
is_handed Answered = false
is_handed Stays = false
is_handed Awaited = false
is_handed Probe = false
is_handed (Lost why) = false

-- the step by which the router hears it
abbrev pub is_hear : RouterStep → Bool
is_hear routes.LetsHear = false
is_hear routes.IsForAll = false
is_hear routes.Extend = false
is_hear routes.IsAwaited = false
is_hear routes.Hear = true
is_hear routes.Outcome = false

abbrev pub router_hears : Step → Bool
router_hears (Frame step) = false
router_hears (Datagram step) = false
router_hears (Word step) = false
router_hears (Router step) = is_hear step

-- those by which it goes to others of its network
abbrev pub hands_on : Step → Bool
hands_on (Frame step) = is_put step
hands_on (Datagram step) = false
hands_on (Word step) = is_carry step
hands_on (Router step) = false

-- ---- the order in which steps are taken

abbrev pub frame_place : FrameStep → ℕ
frame_place asks.IsFrame = 0
frame_place asks.HasNetwork = 1
frame_place asks.IsHeardBeside = 2
frame_place asks.IsTooLong = 3
frame_place asks.IsOwn = 4
frame_place asks.IsProbe = 5
frame_place asks.IsOfItsKind = 6
frame_place asks.IsForAnother = 7
frame_place asks.Capture = 8
frame_place asks.LetsIn = 9
frame_place asks.HasLinks = 10
frame_place asks.IsPacket = 11
frame_place asks.IsBeyondLink = 12
frame_place asks.NamesClient = 13
frame_place asks.PutOnLinks = 14
frame_place asks.IsForRouter = 15
frame_place asks.WasPut = 16
frame_place asks.IsFromClient = 17
frame_place asks.IsWhole = 18

abbrev pub datagram_place : DatagramStep → ℕ
datagram_place hears.IsTooLong = 0
datagram_place hears.Capture = 1
datagram_place hears.IsAllowed = 2
datagram_place hears.Hear = 3
datagram_place hears.IsPacket = 4
datagram_place hears.IsAnswered = 5
datagram_place hears.IsClient = 6
datagram_place hears.LetsAnswer = 7
datagram_place hears.Answer = 8
datagram_place hears.LetsStranger = 9
datagram_place hears.AnswerStranger = 10
datagram_place hears.IsClientNow = 11
datagram_place hears.IsFromClient = 12
datagram_place hears.IsPinged = 13
datagram_place hears.LetsPing = 14
datagram_place hears.Ping = 15

abbrev pub word_place : WordStep → ℕ
word_place says.IsPing = 20
word_place says.LetsReply = 21
word_place says.Reply = 22
word_place says.LeaveUnanswered = 23
word_place says.IsForSomebody = 24
word_place says.IsForFarRouters = 25
word_place says.LetsSay = 26
word_place says.Carry = 27
word_place says.IsHeard = 28
word_place says.WasCarried = 29

abbrev pub router_place : RouterStep → ℕ
router_place routes.LetsHear = 40
router_place routes.IsForAll = 41
router_place routes.Extend = 42
router_place routes.IsAwaited = 43
router_place routes.Hear = 44
router_place routes.Outcome = 45

abbrev pub place : Step → ℕ
place (Frame step) = frame_place step
place (Datagram step) = datagram_place step
place (Word step) = word_place step
place (Router step) = router_place step

-- what is next comes behind a place, if anything is
abbrev pub IsBehind : ℕ → Course → Type 0
IsBehind before (Goes step) = before < place step
IsBehind before (Ends fate) = Unit {0}

-- ---- counts of many packets, the latest first

abbrev pub counts_of : List Fate → Counts
counts_of [] = nothing
counts_of (fate ∷ earlier) = counted fate (counts_of earlier)

abbrev pub one : Bool → ℕ
one true = 1
one false = 0

abbrev pub number_of : (Fate → Bool) → List Fate → ℕ
number_of is [] = 0
number_of is (fate ∷ earlier) = number_of is earlier + one (is fate)

-- the router heard a packet and took it, it went on, was answered, or was for the gateway itself
abbrev pub is_taken : Fate → Bool
is_taken Elsewhere = false
is_taken Heard = true
is_taken (Dropped number) = false
is_taken HandedOn = true
is_taken Answered = true
is_taken Stays = true
is_taken Awaited = true
is_taken Probe = true
is_taken (Lost why) = false

-- it came on this network
abbrev pub is_here : Fate → Bool
is_here Elsewhere = false
is_here Heard = true
is_here (Dropped number) = true
is_here HandedOn = true
is_here Answered = true
is_here Stays = true
is_here Awaited = true
is_here Probe = true
is_here (Lost why) = true

-- a drop has a number that is counted
abbrev pub can_be : Fate → Bool
can_be Elsewhere = true
can_be Heard = true
can_be (Dropped number) = has_place number
can_be HandedOn = true
can_be Answered = true
can_be Stays = true
can_be Awaited = true
can_be Probe = true
can_be (Lost why) = true

-- a packet is lost for that reason
abbrev pub is_lost_for : Reason → Fate → Bool
is_lost_for why Elsewhere = false
is_lost_for why Heard = false
is_lost_for why (Dropped number) = false
is_lost_for why HandedOn = false
is_lost_for why Answered = false
is_lost_for why Stays = false
is_lost_for why Awaited = false
is_lost_for why Probe = false
is_lost_for why (Lost other) = reason_number why == reason_number other
