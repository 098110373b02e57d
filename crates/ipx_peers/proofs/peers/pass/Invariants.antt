use Rattle.ipx_peers.specs.inside.Kept.{later_in}
use Rattle.ipx_peers.proofs.Lists.{MapsInPlace}
use Rattle.ipx_peers.proofs.peers.pass.Given as goal

abbrev pub invariant-loop-place : goal.invariant-loop-place
invariant-loop-place l = MapsInPlace later_in l.initial.places l.places l.place-index
