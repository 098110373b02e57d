use Rattle.ipx_tunnel.proofs.Lists.{MapsInPlace}
use Rattle.ipx_keyed.specs.Tables.{refreshed}
use Rattle.ipx_keyed.proofs.changing.refresh.Given as goal

abbrev pub invariant-loop-client : goal.invariant-loop-client
invariant-loop-client l = MapsInPlace (refreshed l.from l.said) l.initial.clients l.clients l.client-index
