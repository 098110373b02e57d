use Rattle.std.proofs.Common.{◌≡◌, false, take}
use Rattle.ipx_wire.specs.Crossed.{is_among}
use Rattle.ipx_wire.proofs.crossed.Crossed.contains.Given as goal

abbrev pub invariant-loop-k : goal.invariant-loop-k
invariant-loop-k l = is_among l.network (take l.k l.self) ≡ false
