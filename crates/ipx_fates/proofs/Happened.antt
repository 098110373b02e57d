-- What the fates of packets say happened.
use Rattle.std.proofs.Common.{◌≡◌, ◌∙◌, refl, sym, ap, inl, inr, ℕ, zero, suc, ◌==◌, Bool, true, false, ◌||◌, nat_lt, if◌then◌else◌, Option, None, Some}
use Rattle.std.specs.List.{list_any}
use Rattle.std.proofs.lemmas.Bool.{or_cases, or_left, or_right, true≢false}
use Rattle.ipx_fates.specs.declared.course.Course.{Course}
use Rattle.ipx_fates.specs.declared.course.Course.TheVariants.{Goes, Ends}
use Rattle.ipx_fates.specs.declared.fate.Fate.{Fate}
use Rattle.ipx_fates.specs.declared.fate.Fate.TheVariants.{Elsewhere, Heard, Dropped, HandedOn, Stays, Awaited, Probe, Lost}
use Rattle.ipx_fates.specs.declared.reason.Reason.{Reason}
use Rattle.ipx_fates.specs.declared.reason.Reason.TheVariants as reason
use Rattle.ipx_fates.specs.declared.step.FrameStep.{FrameStep}
use Rattle.ipx_fates.specs.declared.step.FrameStep.TheVariants as asks
use Rattle.ipx_fates.specs.declared.step.DatagramStep.{DatagramStep}
use Rattle.ipx_fates.specs.declared.step.DatagramStep.TheVariants as hears
use Rattle.ipx_fates.specs.declared.step.WordStep.{WordStep}
use Rattle.ipx_fates.specs.declared.step.WordStep.TheVariants as says
use Rattle.ipx_fates.specs.declared.step.RouterStep.{RouterStep}
use Rattle.ipx_fates.specs.declared.step.RouterStep.TheVariants as routes
use Rattle.ipx_fates.specs.declared.step.Step.{Step}
use Rattle.ipx_fates.specs.declared.step.Step.TheVariants.{Frame, Datagram, Word, Router}
use Rattle.ipx_fates.specs.Fates.{reason_at}
use Rattle.ipx_fates.specs.Steps.{is_yes, ended_by, lost}
use Rattle.ipx_fates.specs.Routing as routing
use Rattle.ipx_fates.specs.Frames as frames
use Rattle.ipx_fates.specs.Words as words
use Rattle.ipx_fates.specs.Datagrams as datagrams
use Rattle.ipx_fates.specs.Courses.{after_step, of_frame, of_datagram}
use Rattle.ipx_fates.specs.Walks.{Answers, fate_by, steps_by, fate_of, steps_of}
use Rattle.ipx_fates.specs.Laws.{router_hears, hands_on, is_heard, is_handed}

-- ---- how a sort of fates comes about: by a deed, and steps behind it

-- a way at such a step, or at such a fate
abbrev near : (Fate → Bool) → (Step → Bool) → Course → Bool
near ends behind (Ends fate) = ends fate
near ends behind (Goes step) = behind step

-- one comes there only by the deed, or from there
abbrev Leads : (Fate → Bool) → (Step → Bool) → (Step → Bool) → Type 0
Leads ends behind deed = (answer : ℕ) (step : Step) → near ends behind (after_step answer step) ≡ true → (deed step || behind step) ≡ true

step_first : (is : Step → Bool) (told : Answers) (step : Step) (n : ℕ)
    → list_any is (steps_by told (Goes step) (suc n)) ≡ (is step || list_any is (steps_by told (after_step (told step) step) n))
unfolding steps_by
step_first is told step n = refl

same_fate : (a b : Fate) → Some a ≡ Some b → a ≡ b
same_fate a b e = cc

-- so whatever has such a fate had the deed, or was behind it already
happened : (ends : Fate → Bool) (behind deed : Step → Bool) → Leads ends behind deed → (told : Answers) (n : ℕ) (course : Course) (fate : Fate)
    → fate_by told course n ≡ Some fate → ends fate ≡ true → (list_any deed (steps_by told course n) || near ends behind course) ≡ true
unfolding fate_by
happened ends behind deed leads told n (Ends other) fate is good =
    or_right (list_any deed (steps_by told (Ends other) n)) (ends other) (ap ends (same_fate other fate is) ∙ good)
happened ends behind deed leads told zero (Goes step) fate is good = absurd cc
happened ends behind deed leads told (suc n) (Goes step) fate is good =
    let later = list_any deed (steps_by told (after_step (told step) step) n) in
    let first = step_first deed told step n in
    let all = list_any deed (steps_by told (Goes step) (suc n)) in
    elim (or_cases later (near ends behind (after_step (told step) step)) (happened ends behind deed leads told n (after_step (told step) step) fate is good)) [
      | inl some ↦ or_left all (behind step) (first ∙ or_right (deed step) later some)
      | inr there ↦ elim (or_cases (deed step) (behind step) (leads (told step) step there)) [
        | inl did ↦ or_left all (behind step) (first ∙ or_left (deed step) later did)
        | inr was ↦ or_right all (behind step) was
      ]
    ]

by_answer : (ends : Fate → Bool) (behind : Step → Bool) (answer : Bool) (a b : Course) (goal : Bool)
    → (near ends behind a ≡ true → goal ≡ true) → (near ends behind b ≡ true → goal ≡ true) → near ends behind (if answer then a else b) ≡ true → goal ≡ true
by_answer ends behind true a b goal from_a from_b there = from_a there
by_answer ends behind false a b goal from_a from_b there = from_b there

by_reason : (ends : Fate → Bool) (behind : Step → Bool) → ((why : Reason) → ends (Lost why) ≡ false) → (why : Option Reason) (on : Course) (goal : Bool)
    → (near ends behind on ≡ true → goal ≡ true) → near ends behind (ended_by why on) ≡ true → goal ≡ true
by_reason ends behind none None on goal from there = from there
by_reason ends behind none (Some why) on goal from there = absurd (true≢false (sym there ∙ none why))

-- (what isn't at such a step yet had the deed)
or_first : (x : Bool) → (x || false) ≡ true → x ≡ true
or_first true is = refl
or_first false is = is

not_handed : (low : Bool) (said : ℕ) → is_handed (if low then Heard else Dropped said) ≡ true → false ≡ true
not_handed true said is = is
not_handed false said is = is

-- ---- what the router heard

abbrev router_behind_heard : RouterStep → Bool
router_behind_heard routes.LetsHear = false
router_behind_heard routes.IsForAll = false
router_behind_heard routes.Extend = false
router_behind_heard routes.IsAwaited = false
router_behind_heard routes.Hear = false
router_behind_heard routes.Outcome = true

abbrev behind_heard : Step → Bool
behind_heard (Frame step) = false
behind_heard (Datagram step) = false
behind_heard (Word step) = false
behind_heard (Router step) = router_behind_heard step

router_to_heard : (answer : ℕ) (step : RouterStep) → near is_heard behind_heard (after_step answer (Router step)) ≡ true → (router_hears (Router step) || behind_heard (Router step)) ≡ true
router_to_heard answer routes.LetsHear there = by_reason is_heard behind_heard (λ why. refl) (reason_at answer) (routing.hands routes.IsForAll) false (λ e. e) there
router_to_heard answer routes.IsForAll there = by_answer is_heard behind_heard (is_yes answer) (routing.hands routes.Extend) (routing.hands routes.IsAwaited) false (λ e. e) (λ e. e) there
router_to_heard answer routes.Extend there = there
router_to_heard answer routes.IsAwaited there = by_answer is_heard behind_heard (is_yes answer) (Ends Awaited) (routing.hands routes.Hear) false (λ e. e) (λ e. e) there
router_to_heard answer routes.Hear there = refl
router_to_heard answer routes.Outcome there = refl

word_to_heard : (answer : ℕ) (step : WordStep) → near is_heard behind_heard (after_step answer (Word step)) ≡ true → (router_hears (Word step) || behind_heard (Word step)) ≡ true
word_to_heard answer says.IsPing there = by_answer is_heard behind_heard (is_yes answer) (words.says says.LetsReply) (words.says says.IsForSomebody) false (λ e. e) (λ e. e) there
word_to_heard answer says.LetsReply there = by_answer is_heard behind_heard (is_yes answer) (words.says says.Reply) (words.says says.LeaveUnanswered) false (λ e. e) (λ e. e) there
word_to_heard answer says.Reply there = there
word_to_heard answer says.LeaveUnanswered there = there
word_to_heard answer says.IsForSomebody there = by_answer is_heard behind_heard (is_yes answer) (words.says says.IsForFarRouters) (lost reason.NoClient) false (λ e. e) (λ e. e) there
word_to_heard answer says.IsForFarRouters there = by_answer is_heard behind_heard (is_yes answer) (lost reason.ForFarRouters) (words.says says.LetsSay) false (λ e. e) (λ e. e) there
word_to_heard answer says.LetsSay there = by_reason is_heard behind_heard (λ why. refl) (reason_at answer) (words.says says.Carry) false (λ e. e) there
word_to_heard answer says.Carry there = there
word_to_heard answer says.IsHeard there = by_answer is_heard behind_heard (is_yes answer) (routing.hands routes.LetsHear) (words.says says.WasCarried) false (λ e. e) (λ e. e) there
word_to_heard answer says.WasCarried there = by_answer is_heard behind_heard (is_yes answer) (Ends HandedOn) (lost reason.NoClient) false (λ e. e) (λ e. e) there

datagram_to_heard : (answer : ℕ) (step : DatagramStep) → near is_heard behind_heard (after_step answer (Datagram step)) ≡ true → (router_hears (Datagram step) || behind_heard (Datagram step)) ≡ true
datagram_to_heard answer hears.IsTooLong there = by_answer is_heard behind_heard (is_yes answer) (lost reason.TooLong) (datagrams.on hears.Capture) false (λ e. e) (λ e. e) there
datagram_to_heard answer hears.Capture there = there
datagram_to_heard answer hears.IsAllowed there = by_answer is_heard behind_heard (is_yes answer) (datagrams.on hears.Hear) (lost reason.NotAllowed) false (λ e. e) (λ e. e) there
datagram_to_heard answer hears.Hear there = by_answer is_heard behind_heard (answer == datagrams.registers) (datagrams.on hears.IsAnswered) (if answer == datagrams.answers then datagrams.on hears.IsClientNow else (if answer == datagrams.speaks then datagrams.on hears.IsFromClient else datagrams.on hears.IsPacket)) false (λ e. e)
    (by_answer is_heard behind_heard (answer == datagrams.answers) (datagrams.on hears.IsClientNow) (if answer == datagrams.speaks then datagrams.on hears.IsFromClient else datagrams.on hears.IsPacket) false (λ e. e)
    (by_answer is_heard behind_heard (answer == datagrams.speaks) (datagrams.on hears.IsFromClient) (datagrams.on hears.IsPacket) false (λ e. e) (λ e. e))) there
datagram_to_heard answer hears.IsPacket there = by_answer is_heard behind_heard (is_yes answer) (lost reason.FalseSource) (lost reason.NoIpx) false (λ e. e) (λ e. e) there
datagram_to_heard answer hears.IsAnswered there = by_answer is_heard behind_heard (is_yes answer) (datagrams.on hears.IsClient) (lost reason.NoRoom) false (λ e. e) (λ e. e) there
datagram_to_heard answer hears.IsClient there = by_answer is_heard behind_heard (is_yes answer) (datagrams.on hears.LetsAnswer) (datagrams.on hears.LetsStranger) false (λ e. e) (λ e. e) there
datagram_to_heard answer hears.LetsAnswer there = by_answer is_heard behind_heard (is_yes answer) (datagrams.on hears.Answer) (lost reason.TooManyAnswers) false (λ e. e) (λ e. e) there
datagram_to_heard answer hears.Answer there = there
datagram_to_heard answer hears.LetsStranger there = by_answer is_heard behind_heard (is_yes answer) (datagrams.on hears.AnswerStranger) (lost reason.TooManyStrangers) false (λ e. e) (λ e. e) there
datagram_to_heard answer hears.AnswerStranger there = there
datagram_to_heard answer hears.IsClientNow there = by_answer is_heard behind_heard (is_yes answer) (Ends Stays) (lost reason.NoRoom) false (λ e. e) (λ e. e) there
datagram_to_heard answer hears.IsFromClient there = by_answer is_heard behind_heard (is_yes answer) (words.says says.IsPing) (datagrams.on hears.IsPinged) false (λ e. e) (λ e. e) there
datagram_to_heard answer hears.IsPinged there = by_answer is_heard behind_heard (is_yes answer) (datagrams.on hears.LetsPing) (lost reason.NoRoom) false (λ e. e) (λ e. e) there
datagram_to_heard answer hears.LetsPing there = by_answer is_heard behind_heard (is_yes answer) (datagrams.on hears.Ping) (lost reason.TooManyStrangers) false (λ e. e) (λ e. e) there
datagram_to_heard answer hears.Ping there = there

frame_to_heard : (answer : ℕ) (step : FrameStep) → near is_heard behind_heard (after_step answer (Frame step)) ≡ true → (router_hears (Frame step) || behind_heard (Frame step)) ≡ true
frame_to_heard answer asks.IsFrame there = by_answer is_heard behind_heard (is_yes answer) (frames.on asks.HasNetwork) (lost reason.NoIpx) false (λ e. e) (λ e. e) there
frame_to_heard answer asks.HasNetwork there = by_answer is_heard behind_heard (is_yes answer) (frames.on asks.IsTooLong) (frames.on asks.IsHeardBeside) false (λ e. e) (λ e. e) there
frame_to_heard answer asks.IsHeardBeside there = by_answer is_heard behind_heard (is_yes answer) (Ends Elsewhere) (lost reason.OtherKind) false (λ e. e) (λ e. e) there
frame_to_heard answer asks.IsTooLong there = by_answer is_heard behind_heard (is_yes answer) (lost reason.TooLong) (frames.on asks.IsOwn) false (λ e. e) (λ e. e) there
frame_to_heard answer asks.IsOwn there = by_answer is_heard behind_heard (is_yes answer) (frames.on asks.IsProbe) (frames.on asks.IsOfItsKind) false (λ e. e) (λ e. e) there
frame_to_heard answer asks.IsProbe there = by_answer is_heard behind_heard (is_yes answer) (Ends Probe) (lost reason.OwnFrame) false (λ e. e) (λ e. e) there
frame_to_heard answer asks.IsOfItsKind there = by_answer is_heard behind_heard (is_yes answer) (frames.on asks.IsForAnother) (lost reason.SecondKind) false (λ e. e) (λ e. e) there
frame_to_heard answer asks.IsForAnother there = by_answer is_heard behind_heard (is_yes answer) (lost reason.ForAnother) (frames.on asks.Capture) false (λ e. e) (λ e. e) there
frame_to_heard answer asks.Capture there = there
frame_to_heard answer asks.LetsIn there = by_reason is_heard behind_heard (λ why. refl) (reason_at answer) (frames.on asks.HasLinks) false (λ e. e) there
frame_to_heard answer asks.HasLinks there = by_answer is_heard behind_heard (is_yes answer) (frames.on asks.IsPacket) (frames.on asks.IsWhole) false (λ e. e) (λ e. e) there
frame_to_heard answer asks.IsPacket there = by_answer is_heard behind_heard (is_yes answer) (frames.on asks.IsBeyondLink) (lost reason.NoIpx) false (λ e. e) (λ e. e) there
frame_to_heard answer asks.IsBeyondLink there = by_answer is_heard behind_heard (is_yes answer) (lost reason.TooLong) (frames.on asks.NamesClient) false (λ e. e) (λ e. e) there
frame_to_heard answer asks.NamesClient there = by_answer is_heard behind_heard (is_yes answer) (lost reason.FalseSource) (frames.on asks.PutOnLinks) false (λ e. e) (λ e. e) there
frame_to_heard answer asks.PutOnLinks there = there
frame_to_heard answer asks.IsForRouter there = by_answer is_heard behind_heard (is_yes answer) (routing.hands routes.LetsHear) (frames.on asks.WasPut) false (λ e. e) (λ e. e) there
frame_to_heard answer asks.WasPut there = by_answer is_heard behind_heard (is_yes answer) (Ends HandedOn) (frames.on asks.IsFromClient) false (λ e. e) (λ e. e) there
frame_to_heard answer asks.IsFromClient there = by_answer is_heard behind_heard (is_yes answer) (lost reason.FalseSource) (lost reason.ForAnother) false (λ e. e) (λ e. e) there
frame_to_heard answer asks.IsWhole there = by_answer is_heard behind_heard (is_yes answer) (routing.hands routes.LetsHear) (routing.hands routes.IsAwaited) false (λ e. e) (λ e. e) there

to_heard : Leads is_heard behind_heard router_hears
to_heard answer (Frame step) there = frame_to_heard answer step there
to_heard answer (Datagram step) there = datagram_to_heard answer step there
to_heard answer (Word step) there = word_to_heard answer step there
to_heard answer (Router step) there = router_to_heard answer step there

pub heard_frame : (told : Answers) (fate : Fate) → fate_of told of_frame ≡ Some fate → is_heard fate ≡ true → list_any router_hears (steps_of told of_frame) ≡ true
heard_frame told fate is good = or_first (list_any router_hears (steps_of told of_frame)) (happened is_heard behind_heard router_hears to_heard told 20 of_frame fate is good)

pub heard_datagram : (told : Answers) (fate : Fate) → fate_of told of_datagram ≡ Some fate → is_heard fate ≡ true → list_any router_hears (steps_of told of_datagram) ≡ true
heard_datagram told fate is good = or_first (list_any router_hears (steps_of told of_datagram)) (happened is_heard behind_heard router_hears to_heard told 20 of_datagram fate is good)

-- ---- what is handed on

abbrev frame_behind_handed : FrameStep → Bool
frame_behind_handed asks.IsFrame = false
frame_behind_handed asks.HasNetwork = false
frame_behind_handed asks.IsHeardBeside = false
frame_behind_handed asks.IsTooLong = false
frame_behind_handed asks.IsOwn = false
frame_behind_handed asks.IsProbe = false
frame_behind_handed asks.IsOfItsKind = false
frame_behind_handed asks.IsForAnother = false
frame_behind_handed asks.Capture = false
frame_behind_handed asks.LetsIn = false
frame_behind_handed asks.HasLinks = false
frame_behind_handed asks.IsPacket = false
frame_behind_handed asks.IsBeyondLink = false
frame_behind_handed asks.NamesClient = false
frame_behind_handed asks.PutOnLinks = false
frame_behind_handed asks.IsForRouter = true
frame_behind_handed asks.WasPut = true
frame_behind_handed asks.IsFromClient = false
frame_behind_handed asks.IsWhole = false

abbrev word_behind_handed : WordStep → Bool
word_behind_handed says.IsPing = false
word_behind_handed says.LetsReply = false
word_behind_handed says.Reply = false
word_behind_handed says.LeaveUnanswered = false
word_behind_handed says.IsForSomebody = false
word_behind_handed says.IsForFarRouters = false
word_behind_handed says.LetsSay = false
word_behind_handed says.Carry = false
word_behind_handed says.IsHeard = true
word_behind_handed says.WasCarried = true

abbrev behind_handed : Step → Bool
behind_handed (Frame step) = frame_behind_handed step
behind_handed (Datagram step) = false
behind_handed (Word step) = word_behind_handed step
behind_handed (Router step) = false

router_to_handed : (answer : ℕ) (step : RouterStep) → near is_handed behind_handed (after_step answer (Router step)) ≡ true → (hands_on (Router step) || behind_handed (Router step)) ≡ true
router_to_handed answer routes.LetsHear there = by_reason is_handed behind_handed (λ why. refl) (reason_at answer) (routing.hands routes.IsForAll) false (λ e. e) there
router_to_handed answer routes.IsForAll there = by_answer is_handed behind_handed (is_yes answer) (routing.hands routes.Extend) (routing.hands routes.IsAwaited) false (λ e. e) (λ e. e) there
router_to_handed answer routes.Extend there = there
router_to_handed answer routes.IsAwaited there = by_answer is_handed behind_handed (is_yes answer) (Ends Awaited) (routing.hands routes.Hear) false (λ e. e) (λ e. e) there
router_to_handed answer routes.Hear there = by_answer is_handed behind_handed (is_yes answer) (lost reason.NoMemory) (routing.hands routes.Outcome) false (λ e. e) (λ e. e) there
router_to_handed answer routes.Outcome there = not_handed (nat_lt answer routing.first_drop) answer there

word_to_handed : (answer : ℕ) (step : WordStep) → near is_handed behind_handed (after_step answer (Word step)) ≡ true → (hands_on (Word step) || behind_handed (Word step)) ≡ true
word_to_handed answer says.IsPing there = by_answer is_handed behind_handed (is_yes answer) (words.says says.LetsReply) (words.says says.IsForSomebody) false (λ e. e) (λ e. e) there
word_to_handed answer says.LetsReply there = by_answer is_handed behind_handed (is_yes answer) (words.says says.Reply) (words.says says.LeaveUnanswered) false (λ e. e) (λ e. e) there
word_to_handed answer says.Reply there = there
word_to_handed answer says.LeaveUnanswered there = there
word_to_handed answer says.IsForSomebody there = by_answer is_handed behind_handed (is_yes answer) (words.says says.IsForFarRouters) (lost reason.NoClient) false (λ e. e) (λ e. e) there
word_to_handed answer says.IsForFarRouters there = by_answer is_handed behind_handed (is_yes answer) (lost reason.ForFarRouters) (words.says says.LetsSay) false (λ e. e) (λ e. e) there
word_to_handed answer says.LetsSay there = by_reason is_handed behind_handed (λ why. refl) (reason_at answer) (words.says says.Carry) false (λ e. e) there
word_to_handed answer says.Carry there = refl
word_to_handed answer says.IsHeard there = refl
word_to_handed answer says.WasCarried there = refl

datagram_to_handed : (answer : ℕ) (step : DatagramStep) → near is_handed behind_handed (after_step answer (Datagram step)) ≡ true → (hands_on (Datagram step) || behind_handed (Datagram step)) ≡ true
datagram_to_handed answer hears.IsTooLong there = by_answer is_handed behind_handed (is_yes answer) (lost reason.TooLong) (datagrams.on hears.Capture) false (λ e. e) (λ e. e) there
datagram_to_handed answer hears.Capture there = there
datagram_to_handed answer hears.IsAllowed there = by_answer is_handed behind_handed (is_yes answer) (datagrams.on hears.Hear) (lost reason.NotAllowed) false (λ e. e) (λ e. e) there
datagram_to_handed answer hears.Hear there = by_answer is_handed behind_handed (answer == datagrams.registers) (datagrams.on hears.IsAnswered) (if answer == datagrams.answers then datagrams.on hears.IsClientNow else (if answer == datagrams.speaks then datagrams.on hears.IsFromClient else datagrams.on hears.IsPacket)) false (λ e. e)
    (by_answer is_handed behind_handed (answer == datagrams.answers) (datagrams.on hears.IsClientNow) (if answer == datagrams.speaks then datagrams.on hears.IsFromClient else datagrams.on hears.IsPacket) false (λ e. e)
    (by_answer is_handed behind_handed (answer == datagrams.speaks) (datagrams.on hears.IsFromClient) (datagrams.on hears.IsPacket) false (λ e. e) (λ e. e))) there
datagram_to_handed answer hears.IsPacket there = by_answer is_handed behind_handed (is_yes answer) (lost reason.FalseSource) (lost reason.NoIpx) false (λ e. e) (λ e. e) there
datagram_to_handed answer hears.IsAnswered there = by_answer is_handed behind_handed (is_yes answer) (datagrams.on hears.IsClient) (lost reason.NoRoom) false (λ e. e) (λ e. e) there
datagram_to_handed answer hears.IsClient there = by_answer is_handed behind_handed (is_yes answer) (datagrams.on hears.LetsAnswer) (datagrams.on hears.LetsStranger) false (λ e. e) (λ e. e) there
datagram_to_handed answer hears.LetsAnswer there = by_answer is_handed behind_handed (is_yes answer) (datagrams.on hears.Answer) (lost reason.TooManyAnswers) false (λ e. e) (λ e. e) there
datagram_to_handed answer hears.Answer there = there
datagram_to_handed answer hears.LetsStranger there = by_answer is_handed behind_handed (is_yes answer) (datagrams.on hears.AnswerStranger) (lost reason.TooManyStrangers) false (λ e. e) (λ e. e) there
datagram_to_handed answer hears.AnswerStranger there = there
datagram_to_handed answer hears.IsClientNow there = by_answer is_handed behind_handed (is_yes answer) (Ends Stays) (lost reason.NoRoom) false (λ e. e) (λ e. e) there
datagram_to_handed answer hears.IsFromClient there = by_answer is_handed behind_handed (is_yes answer) (words.says says.IsPing) (datagrams.on hears.IsPinged) false (λ e. e) (λ e. e) there
datagram_to_handed answer hears.IsPinged there = by_answer is_handed behind_handed (is_yes answer) (datagrams.on hears.LetsPing) (lost reason.NoRoom) false (λ e. e) (λ e. e) there
datagram_to_handed answer hears.LetsPing there = by_answer is_handed behind_handed (is_yes answer) (datagrams.on hears.Ping) (lost reason.TooManyStrangers) false (λ e. e) (λ e. e) there
datagram_to_handed answer hears.Ping there = there

frame_to_handed : (answer : ℕ) (step : FrameStep) → near is_handed behind_handed (after_step answer (Frame step)) ≡ true → (hands_on (Frame step) || behind_handed (Frame step)) ≡ true
frame_to_handed answer asks.IsFrame there = by_answer is_handed behind_handed (is_yes answer) (frames.on asks.HasNetwork) (lost reason.NoIpx) false (λ e. e) (λ e. e) there
frame_to_handed answer asks.HasNetwork there = by_answer is_handed behind_handed (is_yes answer) (frames.on asks.IsTooLong) (frames.on asks.IsHeardBeside) false (λ e. e) (λ e. e) there
frame_to_handed answer asks.IsHeardBeside there = by_answer is_handed behind_handed (is_yes answer) (Ends Elsewhere) (lost reason.OtherKind) false (λ e. e) (λ e. e) there
frame_to_handed answer asks.IsTooLong there = by_answer is_handed behind_handed (is_yes answer) (lost reason.TooLong) (frames.on asks.IsOwn) false (λ e. e) (λ e. e) there
frame_to_handed answer asks.IsOwn there = by_answer is_handed behind_handed (is_yes answer) (frames.on asks.IsProbe) (frames.on asks.IsOfItsKind) false (λ e. e) (λ e. e) there
frame_to_handed answer asks.IsProbe there = by_answer is_handed behind_handed (is_yes answer) (Ends Probe) (lost reason.OwnFrame) false (λ e. e) (λ e. e) there
frame_to_handed answer asks.IsOfItsKind there = by_answer is_handed behind_handed (is_yes answer) (frames.on asks.IsForAnother) (lost reason.SecondKind) false (λ e. e) (λ e. e) there
frame_to_handed answer asks.IsForAnother there = by_answer is_handed behind_handed (is_yes answer) (lost reason.ForAnother) (frames.on asks.Capture) false (λ e. e) (λ e. e) there
frame_to_handed answer asks.Capture there = there
frame_to_handed answer asks.LetsIn there = by_reason is_handed behind_handed (λ why. refl) (reason_at answer) (frames.on asks.HasLinks) false (λ e. e) there
frame_to_handed answer asks.HasLinks there = by_answer is_handed behind_handed (is_yes answer) (frames.on asks.IsPacket) (frames.on asks.IsWhole) false (λ e. e) (λ e. e) there
frame_to_handed answer asks.IsPacket there = by_answer is_handed behind_handed (is_yes answer) (frames.on asks.IsBeyondLink) (lost reason.NoIpx) false (λ e. e) (λ e. e) there
frame_to_handed answer asks.IsBeyondLink there = by_answer is_handed behind_handed (is_yes answer) (lost reason.TooLong) (frames.on asks.NamesClient) false (λ e. e) (λ e. e) there
frame_to_handed answer asks.NamesClient there = by_answer is_handed behind_handed (is_yes answer) (lost reason.FalseSource) (frames.on asks.PutOnLinks) false (λ e. e) (λ e. e) there
frame_to_handed answer asks.PutOnLinks there = refl
frame_to_handed answer asks.IsForRouter there = refl
frame_to_handed answer asks.WasPut there = refl
frame_to_handed answer asks.IsFromClient there = by_answer is_handed behind_handed (is_yes answer) (lost reason.FalseSource) (lost reason.ForAnother) false (λ e. e) (λ e. e) there
frame_to_handed answer asks.IsWhole there = by_answer is_handed behind_handed (is_yes answer) (routing.hands routes.LetsHear) (routing.hands routes.IsAwaited) false (λ e. e) (λ e. e) there

to_handed : Leads is_handed behind_handed hands_on
to_handed answer (Frame step) there = frame_to_handed answer step there
to_handed answer (Datagram step) there = datagram_to_handed answer step there
to_handed answer (Word step) there = word_to_handed answer step there
to_handed answer (Router step) there = router_to_handed answer step there

pub handed_frame : (told : Answers) (fate : Fate) → fate_of told of_frame ≡ Some fate → is_handed fate ≡ true → list_any hands_on (steps_of told of_frame) ≡ true
handed_frame told fate is good = or_first (list_any hands_on (steps_of told of_frame)) (happened is_handed behind_handed hands_on to_handed told 20 of_frame fate is good)

pub handed_datagram : (told : Answers) (fate : Fate) → fate_of told of_datagram ≡ Some fate → is_handed fate ≡ true → list_any hands_on (steps_of told of_datagram) ≡ true
handed_datagram told fate is good = or_first (list_any hands_on (steps_of told of_datagram)) (happened is_handed behind_handed hands_on to_handed told 20 of_datagram fate is good)
