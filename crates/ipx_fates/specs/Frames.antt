-- What is asked of a frame, and in which order.
use Rattle.std.specs.Prelude.{ℕ}
use Rattle.ipx_fates.specs.declared.course.Course.{Course}
use Rattle.ipx_fates.specs.declared.course.Course.TheVariants.{Goes, Ends}
use Rattle.ipx_fates.specs.declared.fate.Fate.TheVariants.{Elsewhere, HandedOn, Probe}
use Rattle.ipx_fates.specs.declared.reason.Reason.TheVariants as reason
use Rattle.ipx_fates.specs.declared.step.FrameStep.{FrameStep}
use Rattle.ipx_fates.specs.declared.step.FrameStep.TheVariants.{IsFrame, HasNetwork, IsHeardBeside, IsTooLong, IsOwn, IsProbe, IsOfItsKind, IsForAnother, Capture, LetsIn, HasLinks, IsPacket, IsBeyondLink, NamesClient, PutOnLinks, IsForRouter, WasPut, IsFromClient, IsWhole}
use Rattle.ipx_fates.specs.declared.step.RouterStep.TheVariants.{LetsHear, IsAwaited}
use Rattle.ipx_fates.specs.declared.step.Step.TheVariants.{Frame}
use Rattle.ipx_fates.specs.Routing.{hands}
use Rattle.ipx_fates.specs.Steps.{either, unless_refused, lost}

abbrev pub on : FrameStep → Course
on step = Goes (Frame step)

abbrev pub after_frame : FrameStep → ℕ → Course
after_frame IsFrame answer = either answer (on HasNetwork) (lost reason.NoIpx)
after_frame HasNetwork answer = either answer (on IsTooLong) (on IsHeardBeside)
after_frame IsHeardBeside answer = either answer (Ends Elsewhere) (lost reason.OtherKind)
after_frame IsTooLong answer = either answer (lost reason.TooLong) (on IsOwn)
after_frame IsOwn answer = either answer (on IsProbe) (on IsOfItsKind)
after_frame IsProbe answer = either answer (Ends Probe) (lost reason.OwnFrame)
after_frame IsOfItsKind answer = either answer (on IsForAnother) (lost reason.SecondKind)
after_frame IsForAnother answer = either answer (lost reason.ForAnother) (on Capture)
after_frame Capture answer = on LetsIn
after_frame LetsIn answer = unless_refused answer (on HasLinks)
after_frame HasLinks answer = either answer (on IsPacket) (on IsWhole)
-- of several links
after_frame IsPacket answer = either answer (on IsBeyondLink) (lost reason.NoIpx)
after_frame IsBeyondLink answer = either answer (lost reason.TooLong) (on NamesClient)
after_frame NamesClient answer = either answer (lost reason.FalseSource) (on PutOnLinks)
after_frame PutOnLinks answer = on IsForRouter
after_frame IsForRouter answer = either answer (hands LetsHear) (on WasPut)
after_frame WasPut answer = either answer (Ends HandedOn) (on IsFromClient)
after_frame IsFromClient answer = either answer (lost reason.FalseSource) (lost reason.ForAnother)
-- of one link: what isn't whole is shown to the router, which says what is wrong with it
after_frame IsWhole answer = either answer (hands LetsHear) (hands IsAwaited)
