-- Whole ways of packets.
use Rattle.std.specs.Prelude.{ℕ}
use Rattle.ipx_fates.specs.declared.course.Course.{Course}
use Rattle.ipx_fates.specs.declared.course.Course.TheVariants.{Goes, Ends}
use Rattle.ipx_fates.specs.declared.step.FrameStep.TheVariants.{IsFrame}
use Rattle.ipx_fates.specs.declared.step.DatagramStep.TheVariants.{IsTooLong}
use Rattle.ipx_fates.specs.declared.step.Step.{Step}
use Rattle.ipx_fates.specs.declared.step.Step.TheVariants.{Frame, Datagram, Word, Router}
use Rattle.ipx_fates.specs.Routing.{after_router}
use Rattle.ipx_fates.specs.Frames as frames
use Rattle.ipx_fates.specs.Words.{after_word}
use Rattle.ipx_fates.specs.Datagrams as datagrams

abbrev pub of_frame : Course
of_frame = Goes (Frame IsFrame)

abbrev pub of_datagram : Course
of_datagram = Goes (Datagram IsTooLong)

abbrev pub after_step : ℕ → Step → Course
after_step answer (Frame step) = frames.after_frame step answer
after_step answer (Datagram step) = datagrams.after_datagram step answer
after_step answer (Word step) = after_word step answer
after_step answer (Router step) = after_router step answer

abbrev pub after : ℕ → Course → Course
after answer (Goes step) = after_step answer step
after answer (Ends fate) = Ends fate
