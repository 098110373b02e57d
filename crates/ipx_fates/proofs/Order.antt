-- What is next comes later in the order of steps.
use Rattle.std.proofs.Common.{arith, ℕ, ◌==◌, Bool, true, false, if◌then◌else◌, Option, None, Some}
use Rattle.ipx_fates.specs.declared.course.Course.{Course}
use Rattle.ipx_fates.specs.declared.course.Course.TheVariants.{Ends}
use Rattle.ipx_fates.specs.declared.fate.Fate.TheVariants.{Elsewhere, HandedOn, Stays, Awaited, Probe}
use Rattle.ipx_fates.specs.declared.reason.Reason.{Reason}
use Rattle.ipx_fates.specs.declared.reason.Reason.TheVariants as reason
use Rattle.ipx_fates.specs.declared.step.FrameStep.{FrameStep}
use Rattle.ipx_fates.specs.declared.step.FrameStep.TheVariants as asks
use Rattle.ipx_fates.specs.declared.step.DatagramStep.{DatagramStep}
use Rattle.ipx_fates.specs.declared.step.DatagramStep.TheVariants as hears
use Rattle.ipx_fates.specs.declared.step.WordStep.{WordStep}
use Rattle.ipx_fates.specs.declared.step.WordStep.TheVariants as says
use Rattle.ipx_fates.specs.declared.step.RouterStep.{RouterStep}
use Rattle.ipx_fates.specs.declared.step.RouterStep.TheVariants as routes
use Rattle.ipx_fates.specs.declared.step.Step.{Step}
use Rattle.ipx_fates.specs.declared.step.Step.TheVariants.{Frame, Datagram, Word, Router}
use Rattle.ipx_fates.specs.Fates.{reason_at}
use Rattle.ipx_fates.specs.Steps.{is_yes, ended_by, lost}
use Rattle.ipx_fates.specs.Routing as routing
use Rattle.ipx_fates.specs.Frames as frames
use Rattle.ipx_fates.specs.Words as words
use Rattle.ipx_fates.specs.Datagrams as datagrams
use Rattle.ipx_fates.specs.Courses.{after_step}
use Rattle.ipx_fates.specs.Laws.{place, IsBehind}

by_answer : (n : ℕ) (answer : Bool) (a b : Course) → IsBehind n a → IsBehind n b → IsBehind n (if answer then a else b)
by_answer n true a b behind_a behind_b = behind_a
by_answer n false a b behind_a behind_b = behind_b

by_reason : (n : ℕ) (why : Option Reason) (on : Course) → IsBehind n on → IsBehind n (ended_by why on)
by_reason n None on behind = behind
by_reason n (Some why) on behind = tt

router_step : (answer : ℕ) (step : RouterStep) → IsBehind (place (Router step)) (after_step answer (Router step))
router_step answer routes.LetsHear = by_reason (place (Router routes.LetsHear)) (reason_at answer) (routing.hands routes.IsForAll) (omega arith)
router_step answer routes.IsForAll = by_answer (place (Router routes.IsForAll)) (is_yes answer) (routing.hands routes.Extend) (routing.hands routes.IsAwaited) (omega arith) (omega arith)
router_step answer routes.Extend = omega arith
router_step answer routes.IsAwaited = by_answer (place (Router routes.IsAwaited)) (is_yes answer) (Ends Awaited) (routing.hands routes.Hear) tt (omega arith)
router_step answer routes.Hear = by_answer (place (Router routes.Hear)) (is_yes answer) (lost reason.NoMemory) (routing.hands routes.Outcome) tt (omega arith)
router_step answer routes.Outcome = tt

word_step : (answer : ℕ) (step : WordStep) → IsBehind (place (Word step)) (after_step answer (Word step))
word_step answer says.IsPing = by_answer (place (Word says.IsPing)) (is_yes answer) (words.says says.LetsReply) (words.says says.IsForSomebody) (omega arith) (omega arith)
word_step answer says.LetsReply = by_answer (place (Word says.LetsReply)) (is_yes answer) (words.says says.Reply) (words.says says.LeaveUnanswered) (omega arith) (omega arith)
word_step answer says.Reply = omega arith
word_step answer says.LeaveUnanswered = omega arith
word_step answer says.IsForSomebody = by_answer (place (Word says.IsForSomebody)) (is_yes answer) (words.says says.IsForFarRouters) (lost reason.NoClient) (omega arith) tt
word_step answer says.IsForFarRouters = by_answer (place (Word says.IsForFarRouters)) (is_yes answer) (lost reason.ForFarRouters) (words.says says.LetsSay) tt (omega arith)
word_step answer says.LetsSay = by_reason (place (Word says.LetsSay)) (reason_at answer) (words.says says.Carry) (omega arith)
word_step answer says.Carry = omega arith
word_step answer says.IsHeard = by_answer (place (Word says.IsHeard)) (is_yes answer) (routing.hands routes.LetsHear) (words.says says.WasCarried) (omega arith) (omega arith)
word_step answer says.WasCarried = by_answer (place (Word says.WasCarried)) (is_yes answer) (Ends HandedOn) (lost reason.NoClient) tt tt

datagram_step : (answer : ℕ) (step : DatagramStep) → IsBehind (place (Datagram step)) (after_step answer (Datagram step))
datagram_step answer hears.IsTooLong = by_answer (place (Datagram hears.IsTooLong)) (is_yes answer) (lost reason.TooLong) (datagrams.on hears.Capture) tt (omega arith)
datagram_step answer hears.Capture = omega arith
datagram_step answer hears.IsAllowed = by_answer (place (Datagram hears.IsAllowed)) (is_yes answer) (datagrams.on hears.Hear) (lost reason.NotAllowed) (omega arith) tt
datagram_step answer hears.Hear = by_answer (place (Datagram hears.Hear)) (answer == datagrams.registers) (datagrams.on hears.IsAnswered) (if answer == datagrams.answers then datagrams.on hears.IsClientNow else (if answer == datagrams.speaks then datagrams.on hears.IsFromClient else datagrams.on hears.IsPacket)) (omega arith)
    (by_answer (place (Datagram hears.Hear)) (answer == datagrams.answers) (datagrams.on hears.IsClientNow) (if answer == datagrams.speaks then datagrams.on hears.IsFromClient else datagrams.on hears.IsPacket) (omega arith)
    (by_answer (place (Datagram hears.Hear)) (answer == datagrams.speaks) (datagrams.on hears.IsFromClient) (datagrams.on hears.IsPacket) (omega arith) (omega arith)))
datagram_step answer hears.IsPacket = by_answer (place (Datagram hears.IsPacket)) (is_yes answer) (lost reason.FalseSource) (lost reason.NoIpx) tt tt
datagram_step answer hears.IsAnswered = by_answer (place (Datagram hears.IsAnswered)) (is_yes answer) (datagrams.on hears.IsClient) (lost reason.NoRoom) (omega arith) tt
datagram_step answer hears.IsClient = by_answer (place (Datagram hears.IsClient)) (is_yes answer) (datagrams.on hears.LetsAnswer) (datagrams.on hears.LetsStranger) (omega arith) (omega arith)
datagram_step answer hears.LetsAnswer = by_answer (place (Datagram hears.LetsAnswer)) (is_yes answer) (datagrams.on hears.Answer) (lost reason.TooManyAnswers) (omega arith) tt
datagram_step answer hears.Answer = tt
datagram_step answer hears.LetsStranger = by_answer (place (Datagram hears.LetsStranger)) (is_yes answer) (datagrams.on hears.AnswerStranger) (lost reason.TooManyStrangers) (omega arith) tt
datagram_step answer hears.AnswerStranger = tt
datagram_step answer hears.IsClientNow = by_answer (place (Datagram hears.IsClientNow)) (is_yes answer) (Ends Stays) (lost reason.NoRoom) tt tt
datagram_step answer hears.IsFromClient = by_answer (place (Datagram hears.IsFromClient)) (is_yes answer) (words.says says.IsPing) (datagrams.on hears.IsPinged) (omega arith) (omega arith)
datagram_step answer hears.IsPinged = by_answer (place (Datagram hears.IsPinged)) (is_yes answer) (datagrams.on hears.LetsPing) (lost reason.NoRoom) (omega arith) tt
datagram_step answer hears.LetsPing = by_answer (place (Datagram hears.LetsPing)) (is_yes answer) (datagrams.on hears.Ping) (lost reason.TooManyStrangers) (omega arith) tt
datagram_step answer hears.Ping = tt

frame_step : (answer : ℕ) (step : FrameStep) → IsBehind (place (Frame step)) (after_step answer (Frame step))
frame_step answer asks.IsFrame = by_answer (place (Frame asks.IsFrame)) (is_yes answer) (frames.on asks.HasNetwork) (lost reason.NoIpx) (omega arith) tt
frame_step answer asks.HasNetwork = by_answer (place (Frame asks.HasNetwork)) (is_yes answer) (frames.on asks.IsTooLong) (frames.on asks.IsHeardBeside) (omega arith) (omega arith)
frame_step answer asks.IsHeardBeside = by_answer (place (Frame asks.IsHeardBeside)) (is_yes answer) (Ends Elsewhere) (lost reason.OtherKind) tt tt
frame_step answer asks.IsTooLong = by_answer (place (Frame asks.IsTooLong)) (is_yes answer) (lost reason.TooLong) (frames.on asks.IsOwn) tt (omega arith)
frame_step answer asks.IsOwn = by_answer (place (Frame asks.IsOwn)) (is_yes answer) (frames.on asks.IsProbe) (frames.on asks.IsOfItsKind) (omega arith) (omega arith)
frame_step answer asks.IsProbe = by_answer (place (Frame asks.IsProbe)) (is_yes answer) (Ends Probe) (lost reason.OwnFrame) tt tt
frame_step answer asks.IsOfItsKind = by_answer (place (Frame asks.IsOfItsKind)) (is_yes answer) (frames.on asks.IsForAnother) (lost reason.SecondKind) (omega arith) tt
frame_step answer asks.IsForAnother = by_answer (place (Frame asks.IsForAnother)) (is_yes answer) (lost reason.ForAnother) (frames.on asks.Capture) tt (omega arith)
frame_step answer asks.Capture = omega arith
frame_step answer asks.LetsIn = by_reason (place (Frame asks.LetsIn)) (reason_at answer) (frames.on asks.HasLinks) (omega arith)
frame_step answer asks.HasLinks = by_answer (place (Frame asks.HasLinks)) (is_yes answer) (frames.on asks.IsPacket) (frames.on asks.IsWhole) (omega arith) (omega arith)
frame_step answer asks.IsPacket = by_answer (place (Frame asks.IsPacket)) (is_yes answer) (frames.on asks.IsBeyondLink) (lost reason.NoIpx) (omega arith) tt
frame_step answer asks.IsBeyondLink = by_answer (place (Frame asks.IsBeyondLink)) (is_yes answer) (lost reason.TooLong) (frames.on asks.NamesClient) tt (omega arith)
frame_step answer asks.NamesClient = by_answer (place (Frame asks.NamesClient)) (is_yes answer) (lost reason.FalseSource) (frames.on asks.PutOnLinks) tt (omega arith)
frame_step answer asks.PutOnLinks = omega arith
frame_step answer asks.IsForRouter = by_answer (place (Frame asks.IsForRouter)) (is_yes answer) (routing.hands routes.LetsHear) (frames.on asks.WasPut) (omega arith) (omega arith)
frame_step answer asks.WasPut = by_answer (place (Frame asks.WasPut)) (is_yes answer) (Ends HandedOn) (frames.on asks.IsFromClient) tt (omega arith)
frame_step answer asks.IsFromClient = by_answer (place (Frame asks.IsFromClient)) (is_yes answer) (lost reason.FalseSource) (lost reason.ForAnother) tt tt
frame_step answer asks.IsWhole = by_answer (place (Frame asks.IsWhole)) (is_yes answer) (routing.hands routes.LetsHear) (routing.hands routes.IsAwaited) (omega arith) (omega arith)

pub comes_later : (answer : ℕ) (step : Step) → IsBehind (place step) (after_step answer step)
comes_later answer (Frame step) = frame_step answer step
comes_later answer (Datagram step) = datagram_step answer step
comes_later answer (Word step) = word_step answer step
comes_later answer (Router step) = router_step answer step
