-- The way of each datagram ends in the fate whose condition is the first that holds.
use Rattle.std.proofs.Common.{◌≡◌, ◌∙◌, refl, ℕ, suc, Bool, true, false, ◌&&◌, not, if◌then◌else◌, Option, Some}
use Rattle.ipx_fates.specs.declared.course.Course.{Course}
use Rattle.ipx_fates.specs.declared.course.Course.TheVariants.{Ends}
use Rattle.ipx_fates.specs.declared.fate.Fate.{Fate}
use Rattle.ipx_fates.specs.declared.fate.Fate.TheVariants.{HandedOn, Answered, Stays, Lost}
use Rattle.ipx_fates.specs.declared.reason.Reason.TheVariants as reason
use Rattle.ipx_fates.specs.declared.step.DatagramStep.TheVariants as hears
use Rattle.ipx_fates.specs.declared.step.WordStep.TheVariants as says
use Rattle.ipx_fates.specs.declared.step.RouterStep.TheVariants as routes
use Rattle.ipx_fates.specs.declared.step.Step.TheVariants.{Datagram, Word}
use Rattle.ipx_fates.specs.Fates.{reason_at}
use Rattle.ipx_fates.specs.Steps.{lost}
use Rattle.ipx_fates.specs.Routing.{hands}
use Rattle.ipx_fates.specs.Words as words
use Rattle.ipx_fates.specs.Datagrams as datagrams
use Rattle.ipx_fates.specs.Courses.{of_datagram}
use Rattle.ipx_fates.specs.Walks.{Answers, fate_by, fate_of}
use Rattle.ipx_fates.specs.Conditions.{when, refused, or_else, first_of, datagram, word, is_said, says_nothing, at_router, word_conditions, datagram_conditions}
use Rattle.ipx_fates.proofs.Shapes.{at_end, deed, fork, limit, ends_if, ends_unless, either_way, unless_one, unless_none, unless_both}
use Rattle.ipx_fates.proofs.Ends.{at_the_router}

-- ---- what a client says to others

carried : (told : Answers) (n : ℕ) → fate_by told (words.says says.WasCarried) (suc (suc (suc (suc (suc (suc n))))))
    ≡ (if word told says.WasCarried then Some HandedOn else Some (Lost reason.NoClient))
carried told n =
    fork told (Word says.WasCarried) (suc (suc (suc (suc (suc n))))) (Ends HandedOn) (lost reason.NoClient) (Some HandedOn) (Some (Lost reason.NoClient)) refl
    (at_end told HandedOn (suc (suc (suc (suc (suc n)))))) (at_end told (Lost reason.NoClient) (suc (suc (suc (suc (suc n))))))

abbrev behind_carry : Answers → Option Fate
behind_carry told =
    or_else (when (not (word told says.IsHeard) && word told says.WasCarried) HandedOn)
    (or_else (when (not (word told says.IsHeard)) (Lost reason.NoClient)) (first_of (at_router told)))

is_heard : (told : Answers) (n : ℕ) → fate_by told (words.says says.IsHeard) (suc (suc (suc (suc (suc (suc (suc n))))))) ≡ behind_carry told
is_heard told n =
    fork told (Word says.IsHeard) (suc (suc (suc (suc (suc (suc n)))))) (hands routes.LetsHear) (words.says says.WasCarried) (first_of (at_router told))
    (if word told says.WasCarried then Some HandedOn else Some (Lost reason.NoClient)) refl
    (at_the_router told n) (carried told n)
    ∙ unless_one (word told says.IsHeard) (word told says.WasCarried) HandedOn (Lost reason.NoClient) (first_of (at_router told))

abbrev behind_far : Answers → Option Fate
behind_far told = or_else (refused (reason_at (told (Word says.LetsSay)))) (behind_carry told)

lets_say : (told : Answers) (n : ℕ) → fate_by told (words.says says.LetsSay) (suc (suc (suc (suc (suc (suc (suc (suc (suc n))))))))) ≡ behind_far told
lets_say told n = limit told (Word says.LetsSay) (suc (suc (suc (suc (suc (suc (suc (suc n)))))))) (words.says says.Carry) (behind_carry told) refl
    (deed told (Word says.Carry) (suc (suc (suc (suc (suc (suc (suc n))))))) (words.says says.IsHeard) (behind_carry told) refl (is_heard told n))

abbrev behind_replies : Answers → Option Fate
behind_replies told = or_else (when (word told says.IsForFarRouters) (Lost reason.ForFarRouters)) (behind_far told)

far : (told : Answers) (n : ℕ) → fate_by told (words.says says.IsForFarRouters) (suc (suc (suc (suc (suc (suc (suc (suc (suc (suc n)))))))))) ≡ behind_replies told
far told n =
    fork told (Word says.IsForFarRouters) (suc (suc (suc (suc (suc (suc (suc (suc (suc n))))))))) (lost reason.ForFarRouters) (words.says says.LetsSay)
    (Some (Lost reason.ForFarRouters)) (behind_far told) refl
    (at_end told (Lost reason.ForFarRouters) (suc (suc (suc (suc (suc (suc (suc (suc (suc n)))))))))) (lets_say told n)
    ∙ ends_if (word told says.IsForFarRouters) (Lost reason.ForFarRouters) (behind_far told)

reply : (told : Answers) → fate_by told (words.says says.LetsReply) 14 ≡ behind_replies told
reply told =
    fork told (Word says.LetsReply) 13 (words.says says.Reply) (words.says says.LeaveUnanswered) (behind_replies told) (behind_replies told) refl
    (deed told (Word says.Reply) 12 (words.says says.IsForFarRouters) (behind_replies told) refl (far told 2))
    (deed told (Word says.LeaveUnanswered) 12 (words.says says.IsForFarRouters) (behind_replies told) refl (far told 2))
    ∙ either_way (word told says.LetsReply) (behind_replies told)

for_somebody : (told : Answers) → fate_by told (words.says says.IsForSomebody) 14 ≡ (if word told says.IsForSomebody then behind_replies told else Some (Lost reason.NoClient))
for_somebody told =
    fork told (Word says.IsForSomebody) 13 (words.says says.IsForFarRouters) (lost reason.NoClient) (behind_replies told) (Some (Lost reason.NoClient)) refl
    (far told 3) (at_end told (Lost reason.NoClient) 13)

ping : (told : Answers) → fate_by told (words.says says.IsPing) 15 ≡ first_of (word_conditions told)
ping told =
    fork told (Word says.IsPing) 14 (words.says says.LetsReply) (words.says says.IsForSomebody) (behind_replies told)
    (if word told says.IsForSomebody then behind_replies told else Some (Lost reason.NoClient)) refl
    (reply told) (for_somebody told)
    ∙ unless_both (word told says.IsPing) (word told says.IsForSomebody) (Lost reason.NoClient) (behind_replies told)

-- ---- a stranger speaks

lets_ping : (told : Answers) → fate_by told (datagrams.on hears.LetsPing) 14
    ≡ (if datagram told hears.LetsPing then Some (Lost reason.Stranger) else Some (Lost reason.TooManyStrangers))
lets_ping told =
    fork told (Datagram hears.LetsPing) 13 (datagrams.on hears.Ping) (lost reason.TooManyStrangers) (Some (Lost reason.Stranger)) (Some (Lost reason.TooManyStrangers)) refl
    (deed told (Datagram hears.Ping) 12 (lost reason.Stranger) (Some (Lost reason.Stranger)) refl (at_end told (Lost reason.Stranger) 12))
    (at_end told (Lost reason.TooManyStrangers) 13)

pinged : (told : Answers) → fate_by told (datagrams.on hears.IsPinged) 15
    ≡ (if datagram told hears.IsPinged then (if datagram told hears.LetsPing then Some (Lost reason.Stranger) else Some (Lost reason.TooManyStrangers))
    else Some (Lost reason.NoRoom))
pinged told =
    fork told (Datagram hears.IsPinged) 14 (datagrams.on hears.LetsPing) (lost reason.NoRoom)
    (if datagram told hears.LetsPing then Some (Lost reason.Stranger) else Some (Lost reason.TooManyStrangers)) (Some (Lost reason.NoRoom)) refl
    (lets_ping told) (at_end told (Lost reason.NoRoom) 14)

-- what becomes of it where it speaks
abbrev spoken : Answers → Option Fate
spoken told =
    or_else (when (not (datagram told hears.IsFromClient) && not (datagram told hears.IsPinged)) (Lost reason.NoRoom))
    (or_else (when (not (datagram told hears.IsFromClient) && not (datagram told hears.LetsPing)) (Lost reason.TooManyStrangers))
    (or_else (when (not (datagram told hears.IsFromClient)) (Lost reason.Stranger)) (first_of (word_conditions told))))

speaks : (told : Answers) → fate_by told (datagrams.on hears.IsFromClient) 16 ≡ spoken told
speaks told =
    fork told (Datagram hears.IsFromClient) 15 (words.says says.IsPing) (datagrams.on hears.IsPinged) (first_of (word_conditions told))
    (if datagram told hears.IsPinged then (if datagram told hears.LetsPing then Some (Lost reason.Stranger) else Some (Lost reason.TooManyStrangers))
    else Some (Lost reason.NoRoom)) refl
    (ping told) (pinged told)
    ∙ unless_none (datagram told hears.IsFromClient) (datagram told hears.IsPinged) (datagram told hears.LetsPing)
    (Lost reason.NoRoom) (Lost reason.TooManyStrangers) (Lost reason.Stranger) (first_of (word_conditions told))

-- ---- it registers

lets_answer : (told : Answers) → fate_by told (datagrams.on hears.LetsAnswer) 14
    ≡ (if datagram told hears.LetsAnswer then Some Answered else Some (Lost reason.TooManyAnswers))
lets_answer told =
    fork told (Datagram hears.LetsAnswer) 13 (datagrams.on hears.Answer) (lost reason.TooManyAnswers) (Some Answered) (Some (Lost reason.TooManyAnswers)) refl
    (deed told (Datagram hears.Answer) 12 (Ends Answered) (Some Answered) refl (at_end told Answered 12)) (at_end told (Lost reason.TooManyAnswers) 13)

lets_stranger : (told : Answers) → fate_by told (datagrams.on hears.LetsStranger) 14
    ≡ (if datagram told hears.LetsStranger then Some Answered else Some (Lost reason.TooManyStrangers))
lets_stranger told =
    fork told (Datagram hears.LetsStranger) 13 (datagrams.on hears.AnswerStranger) (lost reason.TooManyStrangers) (Some Answered) (Some (Lost reason.TooManyStrangers)) refl
    (deed told (Datagram hears.AnswerStranger) 12 (Ends Answered) (Some Answered) refl (at_end told Answered 12)) (at_end told (Lost reason.TooManyStrangers) 13)

abbrev who_registers : Answers → Option Fate
who_registers told =
    if datagram told hears.IsClient then (if datagram told hears.LetsAnswer then Some Answered else Some (Lost reason.TooManyAnswers))
    else (if datagram told hears.LetsStranger then Some Answered else Some (Lost reason.TooManyStrangers))

client : (told : Answers) → fate_by told (datagrams.on hears.IsClient) 15 ≡ who_registers told
client told =
    fork told (Datagram hears.IsClient) 14 (datagrams.on hears.LetsAnswer) (datagrams.on hears.LetsStranger)
    (if datagram told hears.LetsAnswer then Some Answered else Some (Lost reason.TooManyAnswers))
    (if datagram told hears.LetsStranger then Some Answered else Some (Lost reason.TooManyStrangers)) refl
    (lets_answer told) (lets_stranger told)

registers : (told : Answers) → fate_by told (datagrams.on hears.IsAnswered) 16
    ≡ (if datagram told hears.IsAnswered then who_registers told else Some (Lost reason.NoRoom))
registers told =
    fork told (Datagram hears.IsAnswered) 15 (datagrams.on hears.IsClient) (lost reason.NoRoom) (who_registers told) (Some (Lost reason.NoRoom)) refl
    (client told) (at_end told (Lost reason.NoRoom) 15)

-- ---- it answers a ping, or says nothing

answers : (told : Answers) → fate_by told (datagrams.on hears.IsClientNow) 16 ≡ (if datagram told hears.IsClientNow then Some Stays else Some (Lost reason.NoRoom))
answers told =
    fork told (Datagram hears.IsClientNow) 15 (Ends Stays) (lost reason.NoRoom) (Some Stays) (Some (Lost reason.NoRoom)) refl
    (at_end told Stays 15) (at_end told (Lost reason.NoRoom) 15)

packet : (told : Answers) → fate_by told (datagrams.on hears.IsPacket) 16
    ≡ (if datagram told hears.IsPacket then Some (Lost reason.FalseSource) else Some (Lost reason.NoIpx))
packet told =
    fork told (Datagram hears.IsPacket) 15 (lost reason.FalseSource) (lost reason.NoIpx) (Some (Lost reason.FalseSource)) (Some (Lost reason.NoIpx)) refl
    (at_end told (Lost reason.FalseSource) 15) (at_end told (Lost reason.NoIpx) 15)

-- ---- whatever it says

one_of_four : (told : Answers) (r a s : Bool) (n : ℕ) (x y z w : Course) (row_x row_y row_z row_w : Option Fate)
    → fate_by told x n ≡ row_x → fate_by told y n ≡ row_y → fate_by told z n ≡ row_z → fate_by told w n ≡ row_w
    → fate_by told (if r then x else (if a then y else (if s then z else w))) n ≡ (if r then row_x else (if a then row_y else (if s then row_z else row_w)))
one_of_four told true a s n x y z w row_x row_y row_z row_w goes_x goes_y goes_z goes_w = goes_x
one_of_four told false true s n x y z w row_x row_y row_z row_w goes_x goes_y goes_z goes_w = goes_y
one_of_four told false false true n x y z w row_x row_y row_z row_w goes_x goes_y goes_z goes_w = goes_z
one_of_four told false false false n x y z w row_x row_y row_z row_w goes_x goes_y goes_z goes_w = goes_w

-- the conditions of all four: it registers, answers a ping, speaks, or says nothing
shape : (r a s answered client lets_client lets_other now packet : Bool) (rest : Option Fate)
    → (if r then (if answered then (if client then (if lets_client then Some Answered else Some (Lost reason.TooManyAnswers))
    else (if lets_other then Some Answered else Some (Lost reason.TooManyStrangers))) else Some (Lost reason.NoRoom))
    else (if a then (if now then Some Stays else Some (Lost reason.NoRoom))
    else (if s then rest else (if packet then Some (Lost reason.FalseSource) else Some (Lost reason.NoIpx)))))
    ≡ or_else (when ((not r && (not a && not s)) && packet) (Lost reason.FalseSource))
    (or_else (when (not r && (not a && not s)) (Lost reason.NoIpx))
    (or_else (when (r && not answered) (Lost reason.NoRoom))
    (or_else (when (r && (client && not lets_client)) (Lost reason.TooManyAnswers))
    (or_else (when (r && (not client && not lets_other)) (Lost reason.TooManyStrangers))
    (or_else (when r Answered)
    (or_else (when (a && now) Stays)
    (or_else (when a (Lost reason.NoRoom)) rest)))))))
shape true a s false client lets_client lets_other now packet rest = refl
shape true a s true true true lets_other now packet rest = refl
shape true a s true true false lets_other now packet rest = refl
shape true a s true false lets_client true now packet rest = refl
shape true a s true false lets_client false now packet rest = refl
shape false true s answered client lets_client lets_other true packet rest = refl
shape false true s answered client lets_client lets_other false packet rest = refl
shape false false true answered client lets_client lets_other now packet rest = refl
shape false false false answered client lets_client lets_other now true rest = refl
shape false false false answered client lets_client lets_other now false rest = refl

abbrev behind_address : Answers → Option Fate
behind_address told =
    or_else (when (says_nothing told && datagram told hears.IsPacket) (Lost reason.FalseSource))
    (or_else (when (says_nothing told) (Lost reason.NoIpx))
    (or_else (when (is_said told datagrams.registers && not (datagram told hears.IsAnswered)) (Lost reason.NoRoom))
    (or_else (when (is_said told datagrams.registers && (datagram told hears.IsClient && not (datagram told hears.LetsAnswer))) (Lost reason.TooManyAnswers))
    (or_else (when (is_said told datagrams.registers && (not (datagram told hears.IsClient) && not (datagram told hears.LetsStranger))) (Lost reason.TooManyStrangers))
    (or_else (when (is_said told datagrams.registers) Answered)
    (or_else (when (is_said told datagrams.answers && datagram told hears.IsClientNow) Stays)
    (or_else (when (is_said told datagrams.answers) (Lost reason.NoRoom)) (spoken told))))))))

hear : (told : Answers) → fate_by told (datagrams.on hears.Hear) 17 ≡ behind_address told
hear told =
    deed told (Datagram hears.Hear) 16 (datagrams.said (told (Datagram hears.Hear)))
    (if is_said told datagrams.registers then (if datagram told hears.IsAnswered then who_registers told else Some (Lost reason.NoRoom))
    else (if is_said told datagrams.answers then (if datagram told hears.IsClientNow then Some Stays else Some (Lost reason.NoRoom))
    else (if is_said told datagrams.speaks then spoken told
    else (if datagram told hears.IsPacket then Some (Lost reason.FalseSource) else Some (Lost reason.NoIpx))))) refl
    (one_of_four told (is_said told datagrams.registers) (is_said told datagrams.answers) (is_said told datagrams.speaks) 16
    (datagrams.on hears.IsAnswered) (datagrams.on hears.IsClientNow) (datagrams.on hears.IsFromClient) (datagrams.on hears.IsPacket)
    (if datagram told hears.IsAnswered then who_registers told else Some (Lost reason.NoRoom))
    (if datagram told hears.IsClientNow then Some Stays else Some (Lost reason.NoRoom))
    (spoken told)
    (if datagram told hears.IsPacket then Some (Lost reason.FalseSource) else Some (Lost reason.NoIpx))
    (registers told) (answers told) (speaks told) (packet told))
    ∙ shape (is_said told datagrams.registers) (is_said told datagrams.answers) (is_said told datagrams.speaks) (datagram told hears.IsAnswered)
    (datagram told hears.IsClient) (datagram told hears.LetsAnswer) (datagram told hears.LetsStranger) (datagram told hears.IsClientNow)
    (datagram told hears.IsPacket) (spoken told)

abbrev behind_capture : Answers → Option Fate
behind_capture told = or_else (when (not (datagram told hears.IsAllowed)) (Lost reason.NotAllowed)) (behind_address told)

allowed : (told : Answers) → fate_by told (datagrams.on hears.IsAllowed) 18 ≡ behind_capture told
allowed told =
    fork told (Datagram hears.IsAllowed) 17 (datagrams.on hears.Hear) (lost reason.NotAllowed) (behind_address told) (Some (Lost reason.NotAllowed)) refl
    (hear told) (at_end told (Lost reason.NotAllowed) 17)
    ∙ ends_unless (datagram told hears.IsAllowed) (Lost reason.NotAllowed) (behind_address told)

pub datagram_ends : (told : Answers) → fate_of told of_datagram ≡ first_of (datagram_conditions told)
datagram_ends told =
    fork told (Datagram hears.IsTooLong) 19 (lost reason.TooLong) (datagrams.on hears.Capture) (Some (Lost reason.TooLong)) (behind_capture told) refl
    (at_end told (Lost reason.TooLong) 19)
    (deed told (Datagram hears.Capture) 18 (datagrams.on hears.IsAllowed) (behind_capture told) refl (allowed told))
    ∙ ends_if (datagram told hears.IsTooLong) (Lost reason.TooLong) (behind_capture told)
