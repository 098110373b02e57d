use Rattle.std.proofs.Common.{◌-◌, length}
use Rattle.ipx_capture.specs.Window.{Grows}
use Rattle.ipx_capture.proofs.Reading.{Gathering}
use Rattle.ipx_capture.proofs.window.Window.gather.Given as goal

abbrev pub invariant-loop-self : goal.invariant-loop-self
invariant-loop-self g l = record {
  bytes : Gathering g.S.Source.asked l.fn.self.ahead l.self.ahead l.fn.intake l.intake l.need;
  memory : Grows l.need l.fn.self.memory l.self.memory;
}

abbrev pub decreases-loop-self : goal.decreases-loop-self
decreases-loop-self g l = l.need - length l.self.ahead
