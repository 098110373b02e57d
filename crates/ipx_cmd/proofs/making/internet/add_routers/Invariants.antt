use Rattle.std.proofs.Common.{map, take}
use Rattle.ipx_cmd.proofs.acts.RoutersAreAdded.{AddedSoFar}
use Rattle.ipx_cmd.proofs.making.internet.add_routers.Given as goal

abbrev pub invariant-loop-ports : goal.invariant-loop-ports
invariant-loop-ports l = AddedSoFar (map (λ ports. ports.items) (take l.ports-index l.named)) l.internet
