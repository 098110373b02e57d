-- Who reaches nobody.
use Rattle.std.proofs.Common.{◌≡◌, ◌∙◌, refl, ap, ℕ, suc, Bool, true, false, if◌then◌else◌, Some}
use Rattle.ipx_fates.specs.declared.course.Course.{Course}
use Rattle.ipx_fates.specs.declared.course.Course.TheVariants.{Ends}
use Rattle.ipx_fates.specs.declared.fate.Fate.TheVariants.{Elsewhere, HandedOn, Answered, Stays, Probe, Lost}
use Rattle.ipx_fates.specs.declared.reason.Reason.{Reason}
use Rattle.ipx_fates.specs.declared.reason.Reason.TheVariants as reason
use Rattle.ipx_fates.specs.declared.step.FrameStep.{FrameStep}
use Rattle.ipx_fates.specs.declared.step.FrameStep.TheVariants as asks
use Rattle.ipx_fates.specs.declared.step.DatagramStep.{DatagramStep}
use Rattle.ipx_fates.specs.declared.step.DatagramStep.TheVariants as hears
use Rattle.ipx_fates.specs.declared.step.WordStep.{WordStep}
use Rattle.ipx_fates.specs.declared.step.WordStep.TheVariants as says
use Rattle.ipx_fates.specs.declared.step.RouterStep.TheVariants as routes
use Rattle.ipx_fates.specs.declared.step.Step.{Step}
use Rattle.ipx_fates.specs.declared.step.Step.TheVariants.{Frame, Datagram, Word, Router}
use Rattle.ipx_fates.specs.Fates.{reason_at}
use Rattle.ipx_fates.specs.Steps.{is_yes, lost}
use Rattle.ipx_fates.specs.Routing.{hands}
use Rattle.ipx_fates.specs.Frames as frames
use Rattle.ipx_fates.specs.Words as words
use Rattle.ipx_fates.specs.Datagrams as datagrams
use Rattle.ipx_fates.specs.Courses.{of_frame, of_datagram}
use Rattle.ipx_fates.specs.Walks.{Answers}
use Rattle.ipx_fates.specs.Conditions.{is_said}
use Rattle.ipx_fates.specs.Laws.{is_put, is_carry, is_tunnel, goes_on, reaches}
use Rattle.ipx_fates.proofs.Calm.{any_by, at_end, deed, fork, yes_goes, no_goes, limit, refuses}

-- a sort of steps that has no other of frames than the one by which they are put on links, and of words than the one that carries them; and
-- no datagram's
pub record Few (is : Step → Bool) : Type 0 where
  pub frames : (step : FrameStep) → is_put step ≡ false → is (Frame step) ≡ false
  pub datagrams : (step : DatagramStep) → is_tunnel step ≡ false → is (Datagram step) ≡ false
  pub words : (step : WordStep) → is_carry step ≡ false → is (Word step) ≡ false
  pub limit : is (Router routes.LetsHear) ≡ false

pub before_kind : (is : Step → Bool) → Few is → (told : Answers) → any_by is told (frames.on asks.IsOfItsKind) 16 ≡ false → any_by is told of_frame 20 ≡ false
before_kind is few told none =
    fork is told (Frame asks.IsFrame) 19 (frames.on asks.HasNetwork) (lost reason.NoIpx) refl (few.frames asks.IsFrame refl) (fork is told (Frame asks.HasNetwork) 18 (frames.on asks.IsTooLong) (frames.on asks.IsHeardBeside) refl (few.frames asks.HasNetwork refl) (fork is told (Frame asks.IsTooLong) 17 (lost reason.TooLong) (frames.on asks.IsOwn) refl (few.frames asks.IsTooLong refl) (at_end is told (Lost reason.TooLong) 17) (fork is told (Frame asks.IsOwn) 16 (frames.on asks.IsProbe) (frames.on asks.IsOfItsKind) refl (few.frames asks.IsOwn refl) (fork is told (Frame asks.IsProbe) 15 (Ends Probe) (lost reason.OwnFrame) refl (few.frames asks.IsProbe refl) (at_end is told (Probe) 15) (at_end is told (Lost reason.OwnFrame) 15)) (none))) (fork is told (Frame asks.IsHeardBeside) 17 (Ends Elsewhere) (lost reason.OtherKind) refl (few.frames asks.IsHeardBeside refl) (at_end is told (Elsewhere) 17) (at_end is told (Lost reason.OtherKind) 17))) (at_end is told (Lost reason.NoIpx) 19)

pub before_limit : (is : Step → Bool) → Few is → (told : Answers) → any_by is told (frames.on asks.LetsIn) 13 ≡ false → any_by is told of_frame 20 ≡ false
before_limit is few told none =
    before_kind is few told (fork is told (Frame asks.IsOfItsKind) 15 (frames.on asks.IsForAnother) (lost reason.SecondKind) refl (few.frames asks.IsOfItsKind refl) (fork is told (Frame asks.IsForAnother) 14 (lost reason.ForAnother) (frames.on asks.Capture) refl (few.frames asks.IsForAnother refl) (at_end is told (Lost reason.ForAnother) 14) (deed is told (Frame asks.Capture) 13 (frames.on asks.LetsIn) refl (few.frames asks.Capture refl) none)) (at_end is told (Lost reason.SecondKind) 15))

pub before_links : (is : Step → Bool) → Few is → (told : Answers) → any_by is told (frames.on asks.HasLinks) 12 ≡ false → any_by is told of_frame 20 ≡ false
before_links is few told none =
    before_limit is few told (limit is told (Frame asks.LetsIn) 12 (frames.on asks.HasLinks) refl (few.frames asks.LetsIn refl) none)

pub before_names : (is : Step → Bool) → Few is → (told : Answers) → any_by is told (frames.on asks.NamesClient) 9 ≡ false → any_by is told (frames.on asks.IsPacket) 11 ≡ false
before_names is few told none =
    fork is told (Frame asks.IsPacket) 10 (frames.on asks.IsBeyondLink) (lost reason.NoIpx) refl (few.frames asks.IsPacket refl) (fork is told (Frame asks.IsBeyondLink) 9 (lost reason.TooLong) (frames.on asks.NamesClient) refl (few.frames asks.IsBeyondLink refl) (at_end is told (Lost reason.TooLong) 9) (none)) (at_end is told (Lost reason.NoIpx) 10)

pub behind_put : (is : Step → Bool) → Few is → (told : Answers) → is (Frame asks.PutOnLinks) ≡ false → any_by is told (hands routes.LetsHear) 6 ≡ false → any_by is told (frames.on asks.IsPacket) 11 ≡ false
behind_put is few told put none =
    before_names is few told (fork is told (Frame asks.NamesClient) 8 (lost reason.FalseSource) (frames.on asks.PutOnLinks) refl (few.frames asks.NamesClient refl) (at_end is told (Lost reason.FalseSource) 8) (deed is told (Frame asks.PutOnLinks) 7 (frames.on asks.IsForRouter) refl put (fork is told (Frame asks.IsForRouter) 6 (hands routes.LetsHear) (frames.on asks.WasPut) refl (few.frames asks.IsForRouter refl) (none) (fork is told (Frame asks.WasPut) 5 (Ends HandedOn) (frames.on asks.IsFromClient) refl (few.frames asks.WasPut refl) (at_end is told (HandedOn) 5) (fork is told (Frame asks.IsFromClient) 4 (lost reason.FalseSource) (lost reason.ForAnother) refl (few.frames asks.IsFromClient refl) (at_end is told (Lost reason.FalseSource) 4) (at_end is told (Lost reason.ForAnother) 4))))))

pub before_hearing : (is : Step → Bool) → Few is → (told : Answers) → any_by is told (datagrams.on hears.Hear) 17 ≡ false → any_by is told of_datagram 20 ≡ false
before_hearing is few told none =
    fork is told (Datagram hears.IsTooLong) 19 (lost reason.TooLong) (datagrams.on hears.Capture) refl (few.datagrams hears.IsTooLong refl) (at_end is told (Lost reason.TooLong) 19) (deed is told (Datagram hears.Capture) 18 (datagrams.on hears.IsAllowed) refl (few.datagrams hears.Capture refl) (fork is told (Datagram hears.IsAllowed) 17 (datagrams.on hears.Hear) (lost reason.NotAllowed) refl (few.datagrams hears.IsAllowed refl) (none) (at_end is told (Lost reason.NotAllowed) 17)))

pub registering : (is : Step → Bool) → Few is → (told : Answers) → any_by is told (datagrams.on hears.IsAnswered) 16 ≡ false
registering is few told =
    fork is told (Datagram hears.IsAnswered) 15 (datagrams.on hears.IsClient) (lost reason.NoRoom) refl (few.datagrams hears.IsAnswered refl) (fork is told (Datagram hears.IsClient) 14 (datagrams.on hears.LetsAnswer) (datagrams.on hears.LetsStranger) refl (few.datagrams hears.IsClient refl) (fork is told (Datagram hears.LetsAnswer) 13 (datagrams.on hears.Answer) (lost reason.TooManyAnswers) refl (few.datagrams hears.LetsAnswer refl) (deed is told (Datagram hears.Answer) 12 (Ends Answered) refl (few.datagrams hears.Answer refl) (at_end is told (Answered) 12)) (at_end is told (Lost reason.TooManyAnswers) 13)) (fork is told (Datagram hears.LetsStranger) 13 (datagrams.on hears.AnswerStranger) (lost reason.TooManyStrangers) refl (few.datagrams hears.LetsStranger refl) (deed is told (Datagram hears.AnswerStranger) 12 (Ends Answered) refl (few.datagrams hears.AnswerStranger refl) (at_end is told (Answered) 12)) (at_end is told (Lost reason.TooManyStrangers) 13))) (at_end is told (Lost reason.NoRoom) 15)

pub answering : (is : Step → Bool) → Few is → (told : Answers) → any_by is told (datagrams.on hears.IsClientNow) 16 ≡ false
answering is few told =
    fork is told (Datagram hears.IsClientNow) 15 (Ends Stays) (lost reason.NoRoom) refl (few.datagrams hears.IsClientNow refl) (at_end is told (Stays) 15) (at_end is told (Lost reason.NoRoom) 15)

pub saying_nothing : (is : Step → Bool) → Few is → (told : Answers) → any_by is told (datagrams.on hears.IsPacket) 16 ≡ false
saying_nothing is few told =
    fork is told (Datagram hears.IsPacket) 15 (lost reason.FalseSource) (lost reason.NoIpx) refl (few.datagrams hears.IsPacket refl) (at_end is told (Lost reason.FalseSource) 15) (at_end is told (Lost reason.NoIpx) 15)

pub strangers_word : (is : Step → Bool) → Few is → (told : Answers) → any_by is told (datagrams.on hears.IsPinged) 15 ≡ false
strangers_word is few told =
    fork is told (Datagram hears.IsPinged) 14 (datagrams.on hears.LetsPing) (lost reason.NoRoom) refl (few.datagrams hears.IsPinged refl) (fork is told (Datagram hears.LetsPing) 13 (datagrams.on hears.Ping) (lost reason.TooManyStrangers) refl (few.datagrams hears.LetsPing refl) (deed is told (Datagram hears.Ping) 12 (lost reason.Stranger) refl (few.datagrams hears.Ping refl) (at_end is told (Lost reason.Stranger) 12)) (at_end is told (Lost reason.TooManyStrangers) 13)) (at_end is told (Lost reason.NoRoom) 14)

one_of_four : (is : Step → Bool) (told : Answers) (r a s : Bool) (n : ℕ) (x y z w : Course)
    → any_by is told x n ≡ false → any_by is told y n ≡ false → any_by is told z n ≡ false → any_by is told w n ≡ false
    → any_by is told (if r then x else (if a then y else (if s then z else w))) n ≡ false
one_of_four is told true a s n x y z w none_x none_y none_z none_w = none_x
one_of_four is told false true s n x y z w none_x none_y none_z none_w = none_y
one_of_four is told false false true n x y z w none_x none_y none_z none_w = none_z
one_of_four is told false false false n x y z w none_x none_y none_z none_w = none_w

-- only who speaks may reach somebody; the tunnel's hearing isn't of the sort
pub before_words : (is : Step → Bool) → Few is → (told : Answers) → is (Datagram hears.Hear) ≡ false
    → any_by is told (datagrams.on hears.IsFromClient) 16 ≡ false → any_by is told of_datagram 20 ≡ false
before_words is few told hear none = before_hearing is few told
    (deed is told (Datagram hears.Hear) 16 (datagrams.said (told (Datagram hears.Hear))) refl hear
    (one_of_four is told (is_said told datagrams.registers) (is_said told datagrams.answers) (is_said told datagrams.speaks) 16
    (datagrams.on hears.IsAnswered) (datagrams.on hears.IsClientNow) (datagrams.on hears.IsFromClient) (datagrams.on hears.IsPacket)
    (registering is few told) (answering is few told) none (saying_nothing is few told)))

pub before_ping : (is : Step → Bool) → Few is → (told : Answers) → is (Datagram hears.Hear) ≡ false → any_by is told (words.says says.IsPing) 15 ≡ false → any_by is told of_datagram 20 ≡ false
before_ping is few told hear none =
    before_words is few told hear (fork is told (Datagram hears.IsFromClient) 15 (words.says says.IsPing) (datagrams.on hears.IsPinged) refl (few.datagrams hears.IsFromClient refl) (none) (strangers_word is few told))

pub before_far : (is : Step → Bool) → Few is → (told : Answers) → is (Datagram hears.Hear) ≡ false → ((n : ℕ) → any_by is told (words.says says.IsForFarRouters) (suc (suc (suc (suc (suc (suc (suc (suc (suc (suc n)))))))))) ≡ false) → any_by is told of_datagram 20 ≡ false
before_far is few told hear none =
    before_ping is few told hear (fork is told (Word says.IsPing) 14 (words.says says.LetsReply) (words.says says.IsForSomebody) refl (few.words says.IsPing refl) (fork is told (Word says.LetsReply) 13 (words.says says.Reply) (words.says says.LeaveUnanswered) refl (few.words says.LetsReply refl) (deed is told (Word says.Reply) 12 (words.says says.IsForFarRouters) refl (few.words says.Reply refl) (none 2)) (deed is told (Word says.LeaveUnanswered) 12 (words.says says.IsForFarRouters) refl (few.words says.LeaveUnanswered refl) (none 2))) (fork is told (Word says.IsForSomebody) 13 (words.says says.IsForFarRouters) (lost reason.NoClient) refl (few.words says.IsForSomebody refl) (none 3) (at_end is told (Lost reason.NoClient) 13)))

pub before_limit_of_words : (is : Step → Bool) → Few is → (told : Answers) → is (Datagram hears.Hear) ≡ false → ((n : ℕ) → any_by is told (words.says says.LetsSay) (suc (suc (suc (suc (suc (suc (suc (suc (suc n))))))))) ≡ false) → any_by is told of_datagram 20 ≡ false
before_limit_of_words is few told hear none =
    before_far is few told hear (λ n. fork is told (Word says.IsForFarRouters) (suc (suc (suc (suc (suc (suc (suc (suc (suc n))))))))) (lost reason.ForFarRouters) (words.says says.LetsSay) refl (few.words says.IsForFarRouters refl) (at_end is told (Lost reason.ForFarRouters) (suc (suc (suc (suc (suc (suc (suc (suc (suc n)))))))))) (none n))

pub before_router : (is : Step → Bool) → Few is → (told : Answers) → is (Datagram hears.Hear) ≡ false → is (Word says.Carry) ≡ false → ((n : ℕ) → any_by is told (hands routes.LetsHear) (suc (suc (suc (suc (suc (suc n)))))) ≡ false) → any_by is told of_datagram 20 ≡ false
before_router is few told hear carry none =
    before_limit_of_words is few told hear (λ n. limit is told (Word says.LetsSay) (suc (suc (suc (suc (suc (suc (suc (suc n)))))))) (words.says says.Carry) refl (few.words says.LetsSay refl) (deed is told (Word says.Carry) (suc (suc (suc (suc (suc (suc (suc n))))))) (words.says says.IsHeard) refl carry (fork is told (Word says.IsHeard) (suc (suc (suc (suc (suc (suc n)))))) (hands routes.LetsHear) (words.says says.WasCarried) refl (few.words says.IsHeard refl) (none n) (fork is told (Word says.WasCarried) (suc (suc (suc (suc (suc n))))) (Ends HandedOn) (lost reason.NoClient) refl (few.words says.WasCarried refl) (at_end is told (HandedOn) (suc (suc (suc (suc (suc n)))))) (at_end is told (Lost reason.NoClient) (suc (suc (suc (suc (suc n))))))))))

-- ---- the sorts

reaching : Few reaches
reaching = record {
  frames = λ step other. other;
  datagrams = λ step other. refl;
  words = λ step other. other;
  limit = refl;
}

going_on : Few goes_on
going_on = record {
  frames = λ step other. refl;
  datagrams = λ step other. refl;
  words = λ step other. refl;
  limit = refl;
}

-- ---- who reaches nobody

-- the gateway's own frames
pub own_frames : (told : Answers) → is_yes (told (Frame asks.IsOwn)) ≡ true → any_by reaches told of_frame 20 ≡ false
own_frames told own =
    fork reaches told (Frame asks.IsFrame) 19 (frames.on asks.HasNetwork) (lost reason.NoIpx) refl refl
    (fork reaches told (Frame asks.HasNetwork) 18 (frames.on asks.IsTooLong) (frames.on asks.IsHeardBeside) refl refl
    (fork reaches told (Frame asks.IsTooLong) 17 (lost reason.TooLong) (frames.on asks.IsOwn) refl refl (at_end reaches told (Lost reason.TooLong) 17)
    (yes_goes reaches told (Frame asks.IsOwn) 16 (frames.on asks.IsProbe) (frames.on asks.IsOfItsKind) refl refl own
    (fork reaches told (Frame asks.IsProbe) 15 (Ends Probe) (lost reason.OwnFrame) refl refl
    (at_end reaches told Probe 15) (at_end reaches told (Lost reason.OwnFrame) 15))))
    (fork reaches told (Frame asks.IsHeardBeside) 17 (Ends Elsewhere) (lost reason.OtherKind) refl refl
    (at_end reaches told Elsewhere 17) (at_end reaches told (Lost reason.OtherKind) 17)))
    (at_end reaches told (Lost reason.NoIpx) 19)

-- frames in the name of a client of another link
pub frames_in_a_name : (told : Answers) → is_yes (told (Frame asks.HasLinks)) ≡ true → is_yes (told (Frame asks.NamesClient)) ≡ true
    → any_by reaches told of_frame 20 ≡ false
frames_in_a_name told several named = before_links reaches reaching told
    (yes_goes reaches told (Frame asks.HasLinks) 11 (frames.on asks.IsPacket) (frames.on asks.IsWhole) refl refl several
    (before_names reaches reaching told
    (yes_goes reaches told (Frame asks.NamesClient) 8 (lost reason.FalseSource) (frames.on asks.PutOnLinks) refl refl named
    (at_end reaches told (Lost reason.FalseSource) 8))))

-- frames of a kind that its sender doesn't use
pub frames_of_a_second_kind : (told : Answers) → is_yes (told (Frame asks.IsOfItsKind)) ≡ false → any_by reaches told of_frame 20 ≡ false
frames_of_a_second_kind told other = before_kind reaches reaching told
    (no_goes reaches told (Frame asks.IsOfItsKind) 15 (frames.on asks.IsForAnother) (lost reason.SecondKind) refl refl other
    (at_end reaches told (Lost reason.SecondKind) 15))

-- frames that a limit refuses
pub refused_frames : (told : Answers) (why : Reason) → reason_at (told (Frame asks.LetsIn)) ≡ Some why → any_by reaches told of_frame 20 ≡ false
refused_frames told why because = before_limit reaches reaching told
    (refuses reaches told (Frame asks.LetsIn) 12 (frames.on asks.HasLinks) why refl refl because)

-- datagrams of addresses that aren't allowed: the tunnel doesn't hear them either
pub not_allowed : (is : Step → Bool) → ((step : DatagramStep) → is_tunnel step ≡ false → is (Datagram step) ≡ false) → (told : Answers)
    → is_yes (told (Datagram hears.IsAllowed)) ≡ false → any_by is told of_datagram 20 ≡ false
not_allowed is few told refused =
    fork is told (Datagram hears.IsTooLong) 19 (lost reason.TooLong) (datagrams.on hears.Capture) refl (few hears.IsTooLong refl) (at_end is told (Lost reason.TooLong) 19)
    (deed is told (Datagram hears.Capture) 18 (datagrams.on hears.IsAllowed) refl (few hears.Capture refl)
    (no_goes is told (Datagram hears.IsAllowed) 17 (datagrams.on hears.Hear) (lost reason.NotAllowed) refl (few hears.IsAllowed refl) refused
    (at_end is told (Lost reason.NotAllowed) 17)))

-- datagrams that don't speak
no_word : (told : Answers) (r a s : Bool) → s ≡ false
    → any_by reaches told (if r then datagrams.on hears.IsAnswered else (if a then datagrams.on hears.IsClientNow else (if s then datagrams.on hears.IsFromClient else datagrams.on hears.IsPacket))) 16 ≡ false
no_word told true a s none = registering reaches reaching told
no_word told false true s none = answering reaches reaching told
no_word told false false s none = ap (λ speaks. any_by reaches told (if speaks then datagrams.on hears.IsFromClient else datagrams.on hears.IsPacket) 16) none
    ∙ saying_nothing reaches reaching told

pub silent : (told : Answers) → is_said told datagrams.speaks ≡ false → any_by reaches told of_datagram 20 ≡ false
silent told none = before_hearing reaches reaching told
    (deed reaches told (Datagram hears.Hear) 16 (datagrams.said (told (Datagram hears.Hear))) refl refl
    (no_word told (is_said told datagrams.registers) (is_said told datagrams.answers) (is_said told datagrams.speaks) none))

-- those of strangers
pub strangers : (told : Answers) → is_yes (told (Datagram hears.IsFromClient)) ≡ false → any_by reaches told of_datagram 20 ≡ false
strangers told stranger = before_words reaches reaching told refl
    (no_goes reaches told (Datagram hears.IsFromClient) 15 (words.says says.IsPing) (datagrams.on hears.IsPinged) refl refl stranger
    (strangers_word reaches reaching told))

-- what is for far routers
pub for_far_routers : (told : Answers) → is_yes (told (Word says.IsForFarRouters)) ≡ true → any_by reaches told of_datagram 20 ≡ false
for_far_routers told far = before_far reaches reaching told refl
    (λ n. yes_goes reaches told (Word says.IsForFarRouters) (suc (suc (suc (suc (suc (suc (suc (suc (suc n))))))))) (lost reason.ForFarRouters) (words.says says.LetsSay) refl refl far
    (at_end reaches told (Lost reason.ForFarRouters) (suc (suc (suc (suc (suc (suc (suc (suc (suc n)))))))))))

-- what a limit refuses
pub refused_words : (told : Answers) (why : Reason) → reason_at (told (Word says.LetsSay)) ≡ Some why → any_by reaches told of_datagram 20 ≡ false
refused_words told why because = before_limit_of_words reaches reaching told refl
    (λ n. refuses reaches told (Word says.LetsSay) (suc (suc (suc (suc (suc (suc (suc (suc n)))))))) (words.says says.Carry) why refl refl because)

-- ---- whom the router doesn't hear

unheard : (told : Answers) (why : Reason) → reason_at (told (Router routes.LetsHear)) ≡ Some why → (n : ℕ)
    → any_by goes_on told (hands routes.LetsHear) (suc n) ≡ false
unheard told why because n = refuses goes_on told (Router routes.LetsHear) n (hands routes.IsForAll) why refl refl because

pub unheard_datagrams : (told : Answers) (why : Reason) → reason_at (told (Router routes.LetsHear)) ≡ Some why → any_by goes_on told of_datagram 20 ≡ false
unheard_datagrams told why because = before_router goes_on going_on told refl refl (λ n. unheard told why because (suc (suc (suc (suc (suc n))))))

pub unheard_of_several : (told : Answers) (why : Reason) → is_yes (told (Frame asks.HasLinks)) ≡ true → reason_at (told (Router routes.LetsHear)) ≡ Some why
    → any_by goes_on told of_frame 20 ≡ false
unheard_of_several told why several because = before_links goes_on going_on told
    (yes_goes goes_on told (Frame asks.HasLinks) 11 (frames.on asks.IsPacket) (frames.on asks.IsWhole) refl refl several
    (behind_put goes_on going_on told refl (unheard told why because 5)))

pub unheard_of_one : (told : Answers) (why : Reason) → is_yes (told (Frame asks.IsWhole)) ≡ true → reason_at (told (Router routes.LetsHear)) ≡ Some why
    → any_by goes_on told of_frame 20 ≡ false
unheard_of_one told why whole because = before_links goes_on going_on told
    (fork goes_on told (Frame asks.HasLinks) 11 (frames.on asks.IsPacket) (frames.on asks.IsWhole) refl refl
    (behind_put goes_on going_on told refl (unheard told why because 5))
    (yes_goes goes_on told (Frame asks.IsWhole) 10 (hands routes.LetsHear) (hands routes.IsAwaited) refl refl whole
    (unheard told why because 9)))
