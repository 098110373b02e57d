use Rattle.ipx_cable.proofs.Lists.{MapsInPlace}
use Rattle.ipx_cable.specs.Kinds.{later}
use Rattle.ipx_cable.proofs.kinds.pass.Given as goal

abbrev pub invariant-loop-kind : goal.invariant-loop-kind
invariant-loop-kind l = MapsInPlace later l.initial.left l.left l.kind-index
