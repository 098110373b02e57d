use Rattle.ipx_tunnel.proofs.Lists.{MapsInPlace}
use Rattle.ipx_keyed.specs.Members.{later}
use Rattle.ipx_keyed.proofs.changing.pass.Given as goal

abbrev pub invariant-loop-client : goal.invariant-loop-client
invariant-loop-client l = MapsInPlace later l.initial.clients l.clients l.client-index
