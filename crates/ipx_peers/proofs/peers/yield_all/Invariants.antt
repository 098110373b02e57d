use Rattle.ipx_peers.specs.inside.Kept.{yielded_in}
use Rattle.ipx_peers.proofs.Lists.{MapsInPlace}
use Rattle.ipx_peers.proofs.peers.yield_all.Given as goal

abbrev pub invariant-loop-place : goal.invariant-loop-place
invariant-loop-place l = MapsInPlace (yielded_in l.fn.address) l.initial.places l.places l.place-index
