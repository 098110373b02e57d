-- What is asked of a datagram of a tunnel, and in which order.
use Rattle.std.specs.Prelude.{ℕ, ◌==◌, if◌then◌else◌}
use Rattle.ipx_fates.specs.declared.course.Course.{Course}
use Rattle.ipx_fates.specs.declared.course.Course.TheVariants.{Goes, Ends}
use Rattle.ipx_fates.specs.declared.fate.Fate.TheVariants.{Answered, Stays}
use Rattle.ipx_fates.specs.declared.reason.Reason.TheVariants as reason
use Rattle.ipx_fates.specs.declared.step.DatagramStep.{DatagramStep}
use Rattle.ipx_fates.specs.declared.step.DatagramStep.TheVariants.{IsTooLong, Capture, IsAllowed, Hear, IsPacket, IsAnswered, IsClient, LetsAnswer, Answer, LetsStranger, AnswerStranger, IsClientNow, IsFromClient, IsPinged, LetsPing, Ping}
use Rattle.ipx_fates.specs.declared.step.WordStep.TheVariants.{IsPing}
use Rattle.ipx_fates.specs.declared.step.Step.TheVariants.{Datagram}
use Rattle.ipx_fates.specs.Words.{says}
use Rattle.ipx_fates.specs.Steps.{either, lost}

abbrev pub on : DatagramStep → Course
on step = Goes (Datagram step)

-- it registers, answers a ping, or speaks to others; any other number is that it says nothing
abbrev pub registers : ℕ
registers = 1

abbrev pub answers : ℕ
answers = 2

abbrev pub speaks : ℕ
speaks = 3

abbrev pub said : ℕ → Course
said what =
    if what == registers then on IsAnswered
    else if what == answers then on IsClientNow
    else if what == speaks then on IsFromClient
    else on IsPacket

abbrev pub after_datagram : DatagramStep → ℕ → Course
after_datagram IsTooLong answer = either answer (lost reason.TooLong) (on Capture)
after_datagram Capture answer = on IsAllowed
after_datagram IsAllowed answer = either answer (on Hear) (lost reason.NotAllowed)
after_datagram Hear answer = said answer
after_datagram IsPacket answer = either answer (lost reason.FalseSource) (lost reason.NoIpx)
-- it registers
after_datagram IsAnswered answer = either answer (on IsClient) (lost reason.NoRoom)
after_datagram IsClient answer = either answer (on LetsAnswer) (on LetsStranger)
after_datagram LetsAnswer answer = either answer (on Answer) (lost reason.TooManyAnswers)
after_datagram Answer answer = Ends Answered
after_datagram LetsStranger answer = either answer (on AnswerStranger) (lost reason.TooManyStrangers)
after_datagram AnswerStranger answer = Ends Answered
-- it answers a ping
after_datagram IsClientNow answer = either answer (Ends Stays) (lost reason.NoRoom)
-- it speaks
after_datagram IsFromClient answer = either answer (says IsPing) (on IsPinged)
after_datagram IsPinged answer = either answer (on LetsPing) (lost reason.NoRoom)
after_datagram LetsPing answer = either answer (on Ping) (lost reason.TooManyStrangers)
after_datagram Ping answer = lost reason.Stranger
