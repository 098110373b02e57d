-- The way of a packet, by numbers, as C knows it.
use Rattle.std.specs.Prelude.{ℕ, ◌==◌, if◌then◌else◌, Option, None, Some}
use Rattle.ipx_fates.specs.Fates.{reason_at, reason_number}
use Rattle.ipx_fates.specs.declared.course.Course.{Course}
use Rattle.ipx_fates.specs.declared.course.Course.TheVariants.{Goes, Ends}
use Rattle.ipx_fates.specs.declared.fate.Fate.{Fate}
use Rattle.ipx_fates.specs.declared.fate.Fate.TheVariants.{Elsewhere, Heard, Dropped, HandedOn, Answered, Stays, Awaited, Probe, Lost}
use Rattle.ipx_fates.specs.declared.reason.Reason.{Reason}
use Rattle.ipx_fates.specs.declared.step.DatagramStep.{DatagramStep}
use Rattle.ipx_fates.specs.declared.step.DatagramStep.TheVariants as datagrams
use Rattle.ipx_fates.specs.declared.step.FrameStep.{FrameStep}
use Rattle.ipx_fates.specs.declared.step.FrameStep.TheVariants as frames
use Rattle.ipx_fates.specs.declared.step.RouterStep.{RouterStep}
use Rattle.ipx_fates.specs.declared.step.RouterStep.TheVariants as routers
use Rattle.ipx_fates.specs.declared.step.WordStep.{WordStep}
use Rattle.ipx_fates.specs.declared.step.WordStep.TheVariants as words
use Rattle.ipx_fates.specs.declared.step.Step.{Step}
use Rattle.ipx_fates.specs.declared.step.Step.TheVariants.{Frame, Datagram, Word, Router}
use Rattle.ipx_c.specs.declared.course_values.CourseValues.{CourseValues}

-- ---- fates

abbrev pub fate_number : Fate → ℕ
fate_number Elsewhere = 0
fate_number Heard = 1
fate_number (Dropped number) = 2
fate_number HandedOn = 3
fate_number Answered = 4
fate_number Stays = 5
fate_number Awaited = 6
fate_number Probe = 7
fate_number (Lost why) = 8

-- the number of its reason, or of the router's drop
abbrev pub number_of : Fate → ℕ
number_of Elsewhere = 0
number_of Heard = 0
number_of (Dropped number) = number
number_of HandedOn = 0
number_of Answered = 0
number_of Stays = 0
number_of Awaited = 0
number_of Probe = 0
number_of (Lost why) = reason_number why

abbrev pub lost_for : Option Reason → Fate
lost_for None = Elsewhere
lost_for (Some why) = Lost why

-- any other number is that of what isn't counted
abbrev pub fate_at : (fate number : ℕ) → Fate
fate_at fate number =
    if fate == 1 then Heard
    else if fate == 2 then Dropped number
    else if fate == 3 then HandedOn
    else if fate == 4 then Answered
    else if fate == 5 then Stays
    else if fate == 6 then Awaited
    else if fate == 7 then Probe
    else if fate == 8 then lost_for (reason_at number)
    else Elsewhere

-- ---- steps

abbrev pub frame_number : FrameStep → ℕ
frame_number frames.IsFrame = 1
frame_number frames.HasNetwork = 2
frame_number frames.IsHeardBeside = 3
frame_number frames.IsTooLong = 4
frame_number frames.IsOwn = 5
frame_number frames.IsProbe = 6
frame_number frames.IsOfItsKind = 7
frame_number frames.IsForAnother = 8
frame_number frames.Capture = 9
frame_number frames.LetsIn = 10
frame_number frames.HasLinks = 11
frame_number frames.IsPacket = 12
frame_number frames.IsBeyondLink = 13
frame_number frames.NamesClient = 14
frame_number frames.PutOnLinks = 15
frame_number frames.IsForRouter = 16
frame_number frames.WasPut = 17
frame_number frames.IsFromClient = 18
frame_number frames.IsWhole = 19

abbrev pub frame_at : ℕ → Option FrameStep
frame_at number =
    if number == 1 then Some frames.IsFrame
    else if number == 2 then Some frames.HasNetwork
    else if number == 3 then Some frames.IsHeardBeside
    else if number == 4 then Some frames.IsTooLong
    else if number == 5 then Some frames.IsOwn
    else if number == 6 then Some frames.IsProbe
    else if number == 7 then Some frames.IsOfItsKind
    else if number == 8 then Some frames.IsForAnother
    else if number == 9 then Some frames.Capture
    else if number == 10 then Some frames.LetsIn
    else if number == 11 then Some frames.HasLinks
    else if number == 12 then Some frames.IsPacket
    else if number == 13 then Some frames.IsBeyondLink
    else if number == 14 then Some frames.NamesClient
    else if number == 15 then Some frames.PutOnLinks
    else if number == 16 then Some frames.IsForRouter
    else if number == 17 then Some frames.WasPut
    else if number == 18 then Some frames.IsFromClient
    else if number == 19 then Some frames.IsWhole
    else None

abbrev pub router_number : RouterStep → ℕ
router_number routers.LetsHear = 20
router_number routers.IsForAll = 21
router_number routers.Extend = 22
router_number routers.IsAwaited = 23
router_number routers.Hear = 24
router_number routers.Outcome = 25

abbrev pub router_at : ℕ → Option RouterStep
router_at number =
    if number == 20 then Some routers.LetsHear
    else if number == 21 then Some routers.IsForAll
    else if number == 22 then Some routers.Extend
    else if number == 23 then Some routers.IsAwaited
    else if number == 24 then Some routers.Hear
    else if number == 25 then Some routers.Outcome
    else None

abbrev pub word_number : WordStep → ℕ
word_number words.IsPing = 26
word_number words.LetsReply = 27
word_number words.Reply = 28
word_number words.LeaveUnanswered = 29
word_number words.IsForSomebody = 30
word_number words.IsForFarRouters = 31
word_number words.LetsSay = 32
word_number words.Carry = 33
word_number words.IsHeard = 34
word_number words.WasCarried = 35

abbrev pub word_at : ℕ → Option WordStep
word_at number =
    if number == 26 then Some words.IsPing
    else if number == 27 then Some words.LetsReply
    else if number == 28 then Some words.Reply
    else if number == 29 then Some words.LeaveUnanswered
    else if number == 30 then Some words.IsForSomebody
    else if number == 31 then Some words.IsForFarRouters
    else if number == 32 then Some words.LetsSay
    else if number == 33 then Some words.Carry
    else if number == 34 then Some words.IsHeard
    else if number == 35 then Some words.WasCarried
    else None

abbrev pub datagram_number : DatagramStep → ℕ
datagram_number datagrams.IsTooLong = 36
datagram_number datagrams.Capture = 37
datagram_number datagrams.IsAllowed = 38
datagram_number datagrams.Hear = 39
datagram_number datagrams.IsPacket = 40
datagram_number datagrams.IsAnswered = 41
datagram_number datagrams.IsClient = 42
datagram_number datagrams.LetsAnswer = 43
datagram_number datagrams.Answer = 44
datagram_number datagrams.LetsStranger = 45
datagram_number datagrams.AnswerStranger = 46
datagram_number datagrams.IsClientNow = 47
datagram_number datagrams.IsFromClient = 48
datagram_number datagrams.IsPinged = 49
datagram_number datagrams.LetsPing = 50
datagram_number datagrams.Ping = 51

abbrev pub datagram_at : ℕ → Option DatagramStep
datagram_at number =
    if number == 36 then Some datagrams.IsTooLong
    else if number == 37 then Some datagrams.Capture
    else if number == 38 then Some datagrams.IsAllowed
    else if number == 39 then Some datagrams.Hear
    else if number == 40 then Some datagrams.IsPacket
    else if number == 41 then Some datagrams.IsAnswered
    else if number == 42 then Some datagrams.IsClient
    else if number == 43 then Some datagrams.LetsAnswer
    else if number == 44 then Some datagrams.Answer
    else if number == 45 then Some datagrams.LetsStranger
    else if number == 46 then Some datagrams.AnswerStranger
    else if number == 47 then Some datagrams.IsClientNow
    else if number == 48 then Some datagrams.IsFromClient
    else if number == 49 then Some datagrams.IsPinged
    else if number == 50 then Some datagrams.LetsPing
    else if number == 51 then Some datagrams.Ping
    else None

abbrev pub step_number : Step → ℕ
step_number (Frame step) = frame_number step
step_number (Router step) = router_number step
step_number (Word step) = word_number step
step_number (Datagram step) = datagram_number step

abbrev pub as_datagram : Option DatagramStep → Option Step
as_datagram None = None
as_datagram (Some step) = Some (Datagram step)

abbrev pub as_word : Option WordStep → Option Step → Option Step
as_word None other = other
as_word (Some step) other = Some (Word step)

abbrev pub as_router : Option RouterStep → Option Step → Option Step
as_router None other = other
as_router (Some step) other = Some (Router step)

abbrev pub as_frame : Option FrameStep → Option Step → Option Step
as_frame None other = other
as_frame (Some step) other = Some (Frame step)

abbrev pub step_at : ℕ → Option Step
step_at number = as_frame (frame_at number) (as_router (router_at number) (as_word (word_at number) (as_datagram (datagram_at number))))

-- ---- ways

abbrev pub course_values : Course → CourseValues
course_values (Goes step) = record { next = step_number step; fate = 0; number = 0 }
course_values (Ends fate) = record { next = 0; fate = fate_number fate; number = number_of fate }

abbrev pub going : Option Step → Course
going None = Ends Elsewhere
going (Some step) = Goes step

-- the way in the values, whatever they are
abbrev pub course_at : CourseValues → Course
course_at values = if values.next == 0 then Ends (fate_at values.fate values.number) else going (step_at values.next)
