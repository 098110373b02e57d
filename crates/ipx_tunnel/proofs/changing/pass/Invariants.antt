use Rattle.ipx_tunnel.specs.inside.Kept.{later}
use Rattle.ipx_tunnel.proofs.Lists.{MapsInPlace}
use Rattle.ipx_tunnel.proofs.changing.pass.Given as goal

abbrev pub invariant-loop-client : goal.invariant-loop-client
invariant-loop-client l = MapsInPlace later l.initial.clients l.clients l.client-index
