use Rattle.std.proofs.Common.{◌≡◌, ◌-◌, length}
use Rattle.ipx_capture.proofs.Filling.{Filling}
use Rattle.ipx_capture.proofs.taking.read_front.Given as goal

abbrev pub invariant-loop-at : goal.invariant-loop-at
invariant-loop-at g l = Filling g.S.Source.asked l.bytes l.fn.intake l.intake l.at × (length l.bytes ≡ length l.fn.bytes)

abbrev pub decreases-loop-at : goal.decreases-loop-at
decreases-loop-at g l = length l.bytes - l.at
